-- Two cores: one portion stores the word that the other one loaded.
use Rattle.std.specs.Prelude.{ℕ, List, [], ◌∷◌, ◌++◌, replicate}
use Rattle.conda_base.specs.declared.actor.Actor.{Actor}
use Rattle.conda_base.specs.declared.actor.Actor.TheVariants as Actor_is
use Rattle.schedule_log.specs.declared.entry.Entry.TheVariants.{Step, Open, Spec, Commit, Back}
use Rattle.traffic_trace.specs.declared.note.Kind.TheVariants as Kind_is
use Rattle.line_memory.specs.Notes.{note_of}
use Rattle.chip_laws.specs.Design.{Design}
use Rattle.laws_example.specs.Configs.{with_two_cores}
use Rattle.laws_example.specs.Programs.{program_design}
use Rattle.laws_example.specs.Runs.{ComesTo}

-- its words
abbrev pub words : List ℕ
words =
    (0x00000513  -- addi x10, x0, 0
    ∷ 0x000005B7  -- lui x11, 0
    ∷ 0x0C058593  -- addi x11, x11, 192
    ∷ 0x04000613  -- addi x12, x0, 64
    ∷ 0x3E800893  -- addi x17, x0, 1000
    ∷ 0x00000073  -- ecall
    ∷ 0x00100513  -- addi x10, x0, 1
    ∷ 0x02058593  -- addi x11, x11, 32
    ∷ 0x00000073  -- ecall
    ∷ 0x0000006F  -- jal x0, 0
    ∷ [])
    ++ replicate 6 0
    ++ (0x00500293  -- addi x5, x0, 5
    ∷ 0x00552023  -- sw x5, 0(x10)
    ∷ 0x3EC00893  -- addi x17, x0, 1004
    ∷ 0x00000073  -- ecall
    ∷ [])
    ++ replicate 4 0
    ++ (0x00052503  -- lw x10, 0(x10)
    ∷ 0x3EC00893  -- addi x17, x0, 1004
    ∷ 0x00000073  -- ecall
    ∷ [])

unfoldable pub design : Design
design = program_design with_two_cores words

-- core 1 loads, core 0 stores and commits, and core 1 rolls back and begins again
abbrev pub worked_events : List Actor
worked_events =
    replicate 9 (Actor_is.Hart 0)
    ++ replicate 2 (Actor_is.Core 1)
    ++ replicate 6 (Actor_is.Core 0)
    ++ replicate 3 (Actor_is.Core 1)
    ++ replicate 2 (Actor_is.Core 1)

abbrev pub TwoCores : Type 0
TwoCores =
    ComesTo design worked_events (record {
      order =
          replicate 9 (Step 0)
          ++ (Open 1 ∷ Spec 1 ∷ Open 0 ∷ [])
          ++ replicate 4 (Spec 0)
          ++ (Commit 0 4 1 ∷ Spec 1 ∷ Spec 1 ∷ Back 1 3 1 ∷ [])
          ++ (Open 1 ∷ Spec 1 ∷ []);
      notes =
          note_of Kind_is.CoreFill 1 (record { 0 = 1 })
          ∷ note_of Kind_is.Merge 0 (record { 0 = 1 })
          ∷ note_of Kind_is.CoreFill 1 (record { 0 = 1 })
          ∷ [];
      tags = [];
      bytes = 5 ∷ replicate 63 0;
    })
