-- A hart that stores for ever to the line that a kernel loads.
use Rattle.std.specs.Prelude.{ℕ, List, [], ◌∷◌, ◌++◌, replicate}
use Rattle.conda_base.specs.declared.actor.Actor.{Actor}
use Rattle.conda_base.specs.declared.actor.Actor.TheVariants as Actor_is
use Rattle.conda_base.specs.declared.Mesi.TheVariants.{E}
use Rattle.schedule_log.specs.declared.entry.Entry.TheVariants.{Step, Idle, Held, Open, Lock, Spec, Commit, Back, Flush}
use Rattle.traffic_trace.specs.declared.note.Kind.TheVariants as Kind_is
use Rattle.line_memory.specs.Notes.{note_of}
use Rattle.chip_laws.specs.Design.{Design}
use Rattle.laws_example.specs.Configs.{with_two_retries}
use Rattle.laws_example.specs.Programs.{program_design}
use Rattle.laws_example.specs.Runs.{ComesTo}

-- its words
abbrev pub words : List ℕ
words =
    (0x00000513  -- addi x10, x0, 0
    ∷ 0x000005B7  -- lui x11, 0
    ∷ 0x0C058593  -- addi x11, x11, 192
    ∷ 0x04000613  -- addi x12, x0, 64
    ∷ 0x3E800893  -- addi x17, x0, 1000
    ∷ 0x00000073  -- ecall
    ∷ 0x00062023  -- sw x0, 0(x12)
    ∷ 0xFFDFF06F  -- jal x0, -4
    ∷ 0x00000073  -- ecall
    ∷ 0x05D00893  -- addi x17, x0, 93
    ∷ 0x00000073  -- ecall
    ∷ [])
    ++ replicate 5 0
    ++ (0x00052503  -- lw x10, 0(x10)
    ∷ 0x3EC00893  -- addi x17, x0, 1004
    ∷ 0x00000073  -- ecall
    ∷ [])

unfoldable pub design : Design
design = program_design with_two_retries words

-- after two rollbacks the next try is locked, and holds the hart
abbrev pub lock_events : List Actor
lock_events =
    replicate 7 (Actor_is.Hart 0)
    ++ replicate 6 (Actor_is.Core 0)
    ++ replicate 2 (Actor_is.Hart 0)
    ++ replicate 6 (Actor_is.Core 0)
    ++ replicate 2 (Actor_is.Hart 0)
    ++ replicate 3 (Actor_is.Core 0)
    ++ replicate 2 (Actor_is.Hart 0)
    ++ replicate 3 (Actor_is.Core 0)

abbrev pub TheLock : Type 0
TheLock =
    ComesTo design lock_events (record {
      order =
          replicate 7 (Step 0)
          ++ (Open 0 ∷ [])
          ++ replicate 3 (Spec 0)
          ++ (Back 0 3 1 ∷ Flush 0 ∷ Step 0 ∷ Step 0 ∷ [])
          ++ (Open 0 ∷ [])
          ++ replicate 3 (Spec 0)
          ++ (Back 0 3 1 ∷ Flush 0 ∷ Step 0 ∷ Step 0 ∷ [])
          ++ (Lock 0 ∷ Spec 0 ∷ Spec 0 ∷ Held (Actor_is.Hart 0) ∷ [])
          ++ (Held (Actor_is.Hart 0) ∷ Spec 0 ∷ Commit 0 3 1 ∷ Idle (Actor_is.Core 0) ∷ []);
      notes =
          note_of Kind_is.Fill 0 (record { 0 = 1 })
          ∷ note_of Kind_is.CoreFill 0 (record { 0 = 1 })
          ∷ note_of Kind_is.Back 0 (record { 0 = 1 })
          ∷ note_of Kind_is.CoreFill 0 (record { 0 = 1 })
          ∷ note_of Kind_is.Back 0 (record { 0 = 1 })
          ∷ note_of Kind_is.Back 0 (record { 0 = 1 })
          ∷ note_of Kind_is.CoreFill 0 (record { 0 = 1 })
          ∷ [];
      tags = (record { 0 = 1 }, E) ∷ [];
      bytes = replicate 64 0;
    })

-- the flush comes after the hart stored again, and the try opens with no line dirty
abbrev pub late_events : List Actor
late_events =
    replicate 7 (Actor_is.Hart 0)
    ++ replicate 5 (Actor_is.Core 0)
    ++ replicate 2 (Actor_is.Hart 0)
    ++ replicate 5 (Actor_is.Core 0)
    ++ replicate 1 (Actor_is.Core 0)

abbrev pub ALateFlush : Type 0
ALateFlush =
    ComesTo design late_events (record {
      order =
          replicate 7 (Step 0)
          ++ (Open 0 ∷ [])
          ++ replicate 3 (Spec 0)
          ++ (Back 0 3 1 ∷ Step 0 ∷ Step 0 ∷ Flush 0 ∷ [])
          ++ (Open 0 ∷ [])
          ++ replicate 3 (Spec 0)
          ++ (Commit 0 3 1 ∷ []);
      notes =
          note_of Kind_is.Fill 0 (record { 0 = 1 })
          ∷ note_of Kind_is.CoreFill 0 (record { 0 = 1 })
          ∷ note_of Kind_is.Back 0 (record { 0 = 1 })
          ∷ note_of Kind_is.CoreFill 0 (record { 0 = 1 })
          ∷ [];
      tags = (record { 0 = 1 }, E) ∷ [];
      bytes = replicate 64 0;
    })
