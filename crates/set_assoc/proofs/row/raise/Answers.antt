use Rattle.std.proofs.Common.{◌<◌, ◌≤◌, ⊎_elim, ◌∙◌, arith}
use Rattle.std.proofs.lemmas.List.{get_or-set_same, get_or-set_other, length-set}
use Rattle.std.proofs.lemmas.Bool.{cases_lt}
use Rattle.set_assoc.proofs.row.raise.Goals as goal

pub returns : goal.returns
returns c =
    let i = c.loop-age.invariant in
    record {
      len = length-set c.loop-age.ages c.args.place 0 ∙ omega (arith, i.len, i.same_len);
      here = get_or-set_same c.loop-age.ages c.args.place 0 0 (omega (arith, i.len, c.requires));
      below = λ k other within young. get_or-set_other c.loop-age.ages c.args.place k 0 0 other ∙ i.below k (omega (arith, i.same_len, c.loop-age-test.false)) young;
      above = λ k other old. get_or-set_other c.loop-age.ages c.args.place k 0 0 other ∙
          ⊎_elim (λ (passed : k < c.loop-age.age-index). i.above k passed old) (λ (ahead : c.loop-age.age-index ≤ k). i.ahead k ahead) (cases_lt k c.loop-age.age-index);
    }
