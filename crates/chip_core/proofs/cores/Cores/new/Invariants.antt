use Rattle.std.proofs.Common.{◌≡◌, ◌<◌, ℕ, replicate, length, Some}
use Rattle.std.specs.Prelude.{slice_get}
use Rattle.offload_calls.specs.declared.status.CoreStatus.TheVariants as Core_is
use Rattle.chip_core.specs.Fits.{resting}
use Rattle.chip_core.proofs.cores.Cores.new.Given as goal
use Rattle.chip_config.specs.Settings.{settings}

abbrev pub invariant-loop-j : goal.invariant-loop-j
invariant-loop-j l = record {
  statuses : l.statuses.items ≡ replicate l.j Core_is.Idle;
  many : length l.portions.items ≡ l.j;
  each : (k : ℕ) → k < l.j → slice_get l.portions.items k ≡ Some (resting (settings l.config) k);
}
