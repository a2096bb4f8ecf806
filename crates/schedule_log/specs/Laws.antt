-- Laws over pieces of a schedule, over its events, and over the texts of entries.
use Rattle.std.specs.Prelude.{◌≡◌, ℕ, Bool, List, [], ◌++◌}
use Rattle.schedule_log.specs.declared.entry.Entry.{Entry}
use Rattle.schedule_log.specs.Texts.{text_of, IsEntry}
use Rattle.schedule_log.specs.Findings.{Finding, Progress, Feeds, AreOnChip, at_start, finds}
use Rattle.schedule_log.specs.Verdict.{Fine, events, good, schedule_verdict}

-- two pieces, one after another, are one piece, and give what both give
abbrev pub PiecesJoin : Type 0
PiecesJoin =
    (start middle last : Progress) (piece next : List ℕ) (given later : List Finding)
    → Feeds start piece given middle → Feeds middle next later last
    → Feeds start (piece ++ next) (given ++ later) last

-- What a reader gave on its way through a text, and what it finds where nothing follows, is what the text says. Where
-- more of the text was to come, its last part counts only once it is too long for a line.
abbrev pub WholeIsFound : Type 0
WholeIsFound =
    (harts cores : ℕ) (text : List ℕ) (given : List Finding) (last : Progress)
    → Feeds (at_start harts cores) text given last → (more : Bool)
    → finds more (at_start harts cores) text ≡ given ++ finds more last []

-- of a schedule that nothing is wrong with every event runs
abbrev pub FineRunsAll : Type 0
FineRunsAll =
    (harts cores : ℕ) (bytes : List ℕ) → schedule_verdict harts cores bytes ≡ Fine
    → good harts cores bytes ≡ events harts cores bytes

-- every actor that a reader finds is one of its chip
abbrev pub FindsItsChip : Type 0
FindsItsChip =
    (more : Bool) (reader : Progress) (text : List ℕ)
    → AreOnChip reader.harts reader.cores (finds more reader text)

-- two entries of a chip never have one text
abbrev pub OneTextOneEntry : Type 0
OneTextOneEntry =
    (first second : Entry) → IsEntry first → IsEntry second → text_of first ≡ text_of second
    → first ≡ second
