-- Two harts whose caches hold one line each.
use Rattle.std.specs.Prelude.{ℕ, List, [], ◌∷◌, ◌++◌, replicate}
use Rattle.conda_base.specs.declared.actor.Actor.{Actor}
use Rattle.conda_base.specs.declared.actor.Actor.TheVariants as Actor_is
use Rattle.conda_base.specs.declared.Mesi.TheVariants.{S}
use Rattle.schedule_log.specs.declared.entry.Entry.TheVariants.{Step}
use Rattle.traffic_trace.specs.declared.note.Kind.TheVariants as Kind_is
use Rattle.line_memory.specs.Notes.{note_of}
use Rattle.chip_laws.specs.Design.{Design}
use Rattle.laws_example.specs.Configs.{with_two_harts}
use Rattle.laws_example.specs.Programs.{program_design}
use Rattle.laws_example.specs.Runs.{ComesTo}

-- its words
abbrev pub words : List ℕ
words =
    (0x04150293  -- addi x5, x10, 65
    ∷ 0x04550023  -- sb x5, 64(x10)
    ∷ 0x08002303  -- lw x6, 128(x0)
    ∷ 0x0000006F  -- jal x0, 0
    ∷ [])

unfoldable pub design : Design
design = program_design with_two_harts words

-- both store to one line, and both then load another one
abbrev pub worked_events : List Actor
worked_events =
    replicate 2 (Actor_is.Hart 0)
    ++ replicate 2 (Actor_is.Hart 1)
    ++ replicate 1 (Actor_is.Hart 0)
    ++ replicate 1 (Actor_is.Hart 1)

abbrev pub TwoHarts : Type 0
TwoHarts =
    ComesTo design worked_events (record {
      order =
          (Step 0 ∷ Step 0 ∷ Step 1 ∷ Step 1 ∷ [])
          ++ (Step 0 ∷ Step 1 ∷ []);
      notes =
          note_of Kind_is.Fill 0 (record { 0 = 1 })
          ∷ note_of Kind_is.Back 0 (record { 0 = 1 })
          ∷ note_of Kind_is.Drop 0 (record { 0 = 1 })
          ∷ note_of Kind_is.Fill 1 (record { 0 = 1 })
          ∷ note_of Kind_is.Fill 0 (record { 0 = 2 })
          ∷ note_of Kind_is.Down 0 (record { 0 = 2 })
          ∷ note_of Kind_is.Back 1 (record { 0 = 1 })
          ∷ note_of Kind_is.Evict 1 (record { 0 = 1 })
          ∷ note_of Kind_is.Fill 1 (record { 0 = 2 })
          ∷ [];
      tags = (record { 0 = 2 }, S) ∷ (record { 0 = 2 }, S) ∷ [];
      bytes = 65 ∷ 66 ∷ replicate 62 0;
    })
