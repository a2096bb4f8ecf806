use Rattle.std.proofs.Common.{rules, sym, ◌∙◌}
use Rattle.bloom_sig.proofs.PlaceLemmas.{member_at}
use Rattle.bloom_sig.proofs.signature.Signature.insert.Goals as goal

pub returns-else-not-has_all : goal.returns-else-not-has_all
returns-else-not-has_all c =
    member_at c.args.self.now c.args.line c.of-at.result (rw (← c.self.view_is) c.of-at.ensures.places) (sym c.has_all.ensures ∙ search rules)
