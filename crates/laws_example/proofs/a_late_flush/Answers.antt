use Rattle.laws_example.proofs.a_late_flush.Goals as goal
use Rattle.std.proofs.Common.{refl}
use Rattle.rv32_decode.specs.Decoding.{decoded}
use Rattle.rv32_hart.specs.Act.{plan_of, after}
use Rattle.offload_calls.specs.HartAct.{plan_effect, waits_next, hart_step}
use Rattle.offload_calls.specs.CoreActs.{kernel_effect, core_act, core_acts}
use Rattle.offload_calls.specs.LineUses.{line_use}
use Rattle.try_runs.specs.Tries.{try_act, try_over}
use Rattle.try_runs.specs.Ends.{end_of}
use Rattle.chip_laws.specs.Rules.{next}
use Rattle.chip_laws.specs.Notes.{notes_of}
use Rattle.chip_laws.specs.Worlds.{happens, world_from, journal_from}
use Rattle.laws_example.specs.Configs.{plain_config, with_two_retries}
use Rattle.laws_example.specs.Locks.{design}

pub returns : goal.returns
unfolding plain_config with_two_retries design decoded plan_of after plan_effect waits_next hart_step kernel_effect core_act core_acts line_use try_act try_over end_of next notes_of happens world_from journal_from
returns c = record { order = refl; notes = refl; tags = refl; bytes = refl }
