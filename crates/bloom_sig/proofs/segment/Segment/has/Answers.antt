use Rattle.std.proofs.Common.{◌∙◌}
use Rattle.bloom_sig.proofs.SegmentWords.{word_within, has_by_word}
use Rattle.bloom_sig.proofs.segment.Segment.has.Goals as goal

pub has_bit-requires : goal.has_bit-requires
has_bit-requires c =
    word_within c.self.inside.bound c.self.inside.words.items _ c.args.self.now c.args.number c.self.invariant c.self.view_is c.deref.ensures.value c.requires

pub returns : goal.returns
returns c =
    c.has_bit.ensures ∙
    has_by_word c.self.inside.bound c.self.inside.words.items _ c.args.self.now c.args.number c.self.view_is c.deref.ensures.value c.requires
