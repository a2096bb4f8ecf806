use Rattle.std.proofs.Common.{◌≡◌, length}
use Rattle.flat_check.specs.Portions.{AllFitImage}
use Rattle.flat_check.proofs.tries.Tries.new.Given as goal

abbrev pub invariant-loop-j : goal.invariant-loop-j
invariant-loop-j l = record {
  many : length l.marks.items ≡ l.j;
  fit : AllFitImage l.marks.items l.code;
}
