use Rattle.std.proofs.Common.{◌≡◌, ◌≤◌, ℕ, List, None, length}
use Rattle.offload_calls.specs.State.{Setup, State}
use Rattle.flat_check.specs.Portions.{AllFitImage, HasActed}
use Rattle.flat_check.proofs.portions.run_portion.Given as goal

abbrev pub invariant-loop-k : goal.invariant-loop-k
invariant-loop-k l = record {
  acts : (s : Setup) (f : State) (stored : List ℕ) → s.code ≡ l.code
      → HasActed s f l.j 0 stored l.fn.marks l.fn.memory l.fn.core l.fn.marks None 0
      → HasActed s f l.j l._k stored l.fn.marks l.memory l.core l.marks l.found.lowest l.found.puts;
  long : length l.memory ≡ length l.code.bytes;
  same : length l.memory ≡ length l.fn.memory;
  many : length l.marks ≡ length l.fn.marks;
  marks : AllFitImage l.marks l.code;
  few : l.found.puts ≤ l._k;
}
