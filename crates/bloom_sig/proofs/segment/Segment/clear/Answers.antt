use Rattle.std.proofs.Common.{sym, ap, ◌∙◌, replicate, false, length}
use Rattle.bloom_sig.specs.Words.{marks_of}
use Rattle.bloom_sig.proofs.WordLemmas.{length-marks, marks_zero}
use Rattle.bloom_sig.proofs.segment.Segment.clear.Goals as goal

pub returns : goal.returns
returns c =
    ap (marks_of c.self.inside.bound) (c.fill.ensures.items (λ y e. e)) ∙ marks_zero c.self.inside.bound _ ∙
    ap (λ n. replicate n false) (sym (length-marks c.self.inside.bound c.self.inside.words.items) ∙ ap length c.self.view_is)
