use Rattle.bloom_sig.proofs.SegmentWords.{same_count, meets_by_words}
use Rattle.bloom_sig.proofs.segment.Segment.meets.Goals as goal

pub share_a_bit-requires : goal.share_a_bit-requires
share_a_bit-requires c =
    same_count c.self.inside.bound c.other.inside.bound c.self.inside.words.items c.other.inside.words.items c.deref.result.now c.deref-2.result.now
    c.args.self.now c.args.other.now c.self.invariant c.other.invariant c.self.view_is c.other.view_is c.deref.ensures.value c.deref-2.ensures.value c.requires

pub returns : goal.returns
returns c =
    let both =
    meets_by_words c.self.inside.bound c.other.inside.bound c.self.inside.words.items c.other.inside.words.items c.deref.result.now c.deref-2.result.now
    c.args.self.now c.args.other.now c.self.invariant c.self.view_is c.other.view_is c.deref.ensures.value c.deref-2.ensures.value c.requires
    in
    (λ shares. both.0 (c.share_a_bit.ensures.0 shares), λ meets. c.share_a_bit.ensures.1 (both.1 meets))
