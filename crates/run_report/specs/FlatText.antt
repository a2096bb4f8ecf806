-- What a report has of the flat state alone: its text without the lines of caches and of traffic.
use Rattle.std.specs.Prelude.{ℕ, ◌≡◌, ◌||◌, Bool, nat_eq, List, [], ◌∷◌, ◌++◌, codes, if◌then◌else◌}
use Rattle.std.specs.List.{flat_map, starts_with}
use Rattle.schedule_log.specs.Schedule.{ended_lines, last_part}
use Rattle.run_report.specs.View.{View}
use Rattle.run_report.specs.Texts.{head_text, actors_text, changes_text, report_text}

-- ---- the flat part of a text

-- a line of tags, of traffic or of a note
abbrev pub is_left_out : List ℕ → Bool
is_left_out line =
    starts_with nat_eq line (codes "tag ") || starts_with nat_eq line (codes "traffic ")
    || starts_with nat_eq line (codes "note ")

-- a line that ended in a line feed
unfoldable pub kept_line : List ℕ → List ℕ
kept_line line = if is_left_out line then [] else line ++ 10 ∷ []

-- what follows the last line feed
unfoldable pub kept_rest : List ℕ → List ℕ
kept_rest part = if is_left_out part then [] else part

-- a text without the lines that are left out
unfoldable pub flat_part : List ℕ → List ℕ
flat_part text = flat_map kept_line (ended_lines text) ++ kept_rest (last_part text)

-- ---- the text of a flat state

-- events and output, harts and cores, and the lines of memory that changed, whatever caches and traffic a view has
abbrev pub flat_text_of : View → ℕ → ℕ → List ℕ
flat_text_of v events out = head_text events out ++ actors_text v ++ changes_text v

-- ---- reports

-- two views show one flat state, whatever their caches and their traffic
pub record ShowAlike (v u : View) : Type 0 where
  pub harts : v.harts ≡ u.harts
  pub cores : v.cores ≡ u.cores
  pub hart : v.hart ≡ u.hart
  pub core : v.core ≡ u.core
  pub base : v.base ≡ u.base
  pub line_bytes : v.line_bytes ≡ u.line_bytes
  pub memory : v.memory ≡ u.memory
  pub loaded : v.loaded ≡ u.loaded

-- the flat part of a report is the flat text of each view that shows the same state
abbrev pub ReportsHaveFlatParts : Type 0
ReportsHaveFlatParts =
    (v u : View) (events out : ℕ) → ShowAlike v u
    → flat_part (report_text v events out) ≡ flat_text_of u events out
