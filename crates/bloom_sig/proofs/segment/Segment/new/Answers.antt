use Rattle.std.proofs.Common.{ap, ◌∙◌}
use Rattle.bloom_sig.specs.Words.{marks_of}
use Rattle.bloom_sig.proofs.WordLemmas.{marks_zero}
use Rattle.bloom_sig.proofs.segment.Segment.new.Goals as goal

pub returns : goal.returns
returns c = ap (marks_of c.args.bound) (c.in_ok-words.ensures.items_if_clones_equal (λ y e. e)) ∙ marks_zero c.args.bound _
