use Rattle.std.proofs.Common.{◌≡◌, ◌<◌, ℕ, length, slice_get, Some}
use Rattle.offload_calls.specs.State.{start_hart}
use Rattle.flat_check.proofs.flat.start_harts.Given as goal

abbrev pub invariant-loop-number : goal.invariant-loop-number
invariant-loop-number l = record {
  many : length l.harts.items ≡ l.number;
  start : (h : ℕ) → h < l.number → slice_get l.harts.items h ≡ Some (start_hart l.entry l.many h);
}
