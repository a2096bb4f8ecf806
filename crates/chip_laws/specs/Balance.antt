-- What came into caches left them or is there, what was filled and merged is what tries read and
-- stored, and what a report prints of it is counts.
use Rattle.std.specs.Prelude.{ℕ, zero, suc, ◌≡◌, ◌<◌, ◌==◌, ◌+◌, ◌-◌, ◌^◌, ◌&&◌, min, Bool, List, [], ◌∷◌, drop, length, is_some, if◌then◌else◌}
use Rattle.std.specs.List.{AllByRecursion}
use Rattle.conda_base.specs.declared.Line.{Line}
use Rattle.conda_base.specs.declared.actor.Actor.{Actor}
use Rattle.schedule_log.specs.declared.entry.Entry.{Entry}
use Rattle.schedule_log.specs.declared.entry.Entry.TheVariants.{Commit, Back}
use Rattle.traffic_trace.specs.declared.note.Kind.{Kind}
use Rattle.traffic_trace.specs.declared.note.Kind.TheVariants.{Fill, Drop, Evict, CoreFill, Merge}
use Rattle.traffic_trace.specs.declared.note.Note.{Note}
use Rattle.traffic_trace.specs.Notes.{Trace, no_notes, place_of, total_of}
use Rattle.line_memory.specs.Notes.{all_noted}
use Rattle.line_memory.specs.Tags.{Tag, Tags, Shape, held_state, each_below}
use Rattle.conda_base.specs.LineLists.{same_line}
use Rattle.chip_laws.specs.Design.{Design, IsDesign, IsActorOf, hart_shape}
use Rattle.chip_laws.specs.Rules.{World, reads_of, writes_of, next}
use Rattle.chip_laws.specs.Worlds.{happens, start_world, world}

-- how many notes pass a test
abbrev pub notes_that : (Note → Bool) → List Note → ℕ
notes_that test [] = 0
notes_that test (note ∷ notes) = (if test note then 1 else 0) + notes_that test notes

abbrev pub is_kind : Kind → Note → Bool
is_kind kind note = place_of note.kind == place_of kind

-- a note of this kind, of hart h and line l
abbrev pub is_note : Kind → ℕ → Line → Note → Bool
is_note kind h l note = is_kind kind note && (note.who == h) && same_line note.line l

-- how many such notes there are
abbrev pub count_at : World → Kind → ℕ → Line → ℕ
count_at w kind h l = notes_that (is_note kind h l) w.notes

-- 1 where hart h holds the line
abbrev pub held_count : Design → World → ℕ → Line → ℕ
held_count d w h l = if is_some (held_state (hart_shape d) w.tags h l) then 1 else 0

-- every tag, in walk order
abbrev pub all_tags : Shape → Tags → List Tag
all_tags shape tags = each_below shape.holders (λ h. each_below shape.sets (tags h))

abbrev pub kind_count : World → Kind → ℕ
kind_count w kind = notes_that (is_kind kind) w.notes

-- the sum of a number over the entries of events, each from the world before it
abbrev pub sum_from : (World → Entry → ℕ) → Design → World → List Actor → ℕ
sum_from number d w [] = 0
sum_from number d w (a ∷ events) =
    number w (next d w a) + sum_from number d (happens d w a) events

-- how many lines the try read that this entry ends
abbrev pub reads_ended : Design → World → Entry → ℕ
reads_ended d w (Commit j n cause) = length (reads_of d (w.seats j).opening)
reads_ended d w (Back j n cause) = length (reads_of d (w.seats j).opening)
reads_ended d w other = 0

-- how many lines the tries read that are open, of cores below n
abbrev pub reads_open : Design → World → ℕ → ℕ
reads_open d w zero = 0
reads_open d w (suc n) = reads_open d w n + length (reads_of d (w.seats n).opening)

-- how many lines this entry commits
abbrev pub writes_ended : Design → World → Entry → ℕ
writes_ended d w (Commit j n cause) = length (writes_of d (w.seats j).opening)
writes_ended d w other = 0

-- the lines that all tries read, those that are still open and will be abandoned among them
abbrev pub all_reads : Design → List Actor → ℕ
all_reads d events =
    sum_from (reads_ended d) d (start_world d) events + reads_open d (world d events) d.config.cores

-- the lines that all commits stored to
abbrev pub all_writes : Design → List Actor → ℕ
all_writes d events = sum_from (writes_ended d) d (start_world d) events

-- a hart's fills of a line are its evictions and drops of it, and one more where it is held
abbrev pub LinesBalance : Design → World → Type 0
LinesBalance d w =
    (h : ℕ) (l : Line) → h < d.config.harts
    → count_at w Fill h l ≡ count_at w Evict h l + count_at w Drop h l + held_count d w h l

-- all fills are all evictions, all drops and the number of tags
abbrev pub TotalsBalance : Design → World → Type 0
TotalsBalance d w =
    kind_count w Fill
    ≡ kind_count w Evict + kind_count w Drop + length (all_tags (hart_shape d) w.tags)

-- what a report prints of the traffic: all notes of the events, noted where none was before
abbrev pub printed_trace : Design → World → Trace
printed_trace d w = all_noted (no_notes d.config.trace_last) w.notes

-- the printed total of a kind
abbrev pub printed_total : Design → World → Kind → ℕ
printed_total d w kind = total_of (printed_trace d w) kind

-- printed fills are printed drops, printed evictions and the number of tags
abbrev pub FillsBalance : Design → World → Type 0
FillsBalance d w =
    printed_total d w Fill
    ≡ printed_total d w Drop + printed_total d w Evict + length (all_tags (hart_shape d) w.tags)

-- What is printed is counts: a total is the number of notes of its kind, or 2 ^ 64 - 1 where there
-- are more, and the notes are the last ones. An event has at most one fill, so the totals of fewer
-- than 2 ^ 64 events balance too.
pub record Printed (d : Design) (events : List Actor) : Type 0 where
  pub totals : (kind : Kind)
      → printed_total d (world d events) kind ≡ min (kind_count (world d events) kind) (2 ^ 64 - 1)
  pub last : let notes = (world d events).notes in
      (printed_trace d (world d events)).notes ≡ drop (length notes - d.config.trace_last) notes
  pub fills : length events < 2 ^ 64 → FillsBalance d (world d events)

pub record Balance (d : Design) (events : List Actor) : Type 0 where
  pub lines : LinesBalance d (world d events)
  pub corefills : kind_count (world d events) CoreFill ≡ all_reads d events
  pub merges : kind_count (world d events) Merge ≡ all_writes d events
  pub totals : TotalsBalance d (world d events)
  pub printed : Printed d events

abbrev pub AlwaysBalanced : Type 0
AlwaysBalanced =
    (d : Design) (events : List Actor) → IsDesign d → AllByRecursion (IsActorOf d) events
    → Balance d events
