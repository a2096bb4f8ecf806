use Rattle.std.proofs.Common.{◌≡◌, ℕ, ◌<◌, ◌≤◌, ◌-◌, get_or, cond, length}
use Rattle.conda_base.specs.Marks.{is_marked}
use Rattle.conda_base.proofs.marks.put_marked.Given as goal

abbrev pub invariant-loop-place : goal.invariant-loop-place
invariant-loop-place l = record {
  len : length l.bytes ≡ length l.initial.bytes;
  within : l.place ≤ l.len;
  passed : (k : ℕ) → k < l.place → get_or l.bytes k 0 ≡ cond (is_marked l.mask k) (get_or l.from k 0) (get_or l.initial.bytes k 0);
  ahead : (k : ℕ) → l.place ≤ k → get_or l.bytes k 0 ≡ get_or l.initial.bytes k 0;
}

abbrev pub decreases-loop-place : goal.decreases-loop-place
decreases-loop-place l = l.len - l.place
