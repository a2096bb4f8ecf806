use Rattle.std.proofs.Common.{rules, sym, ◌∙◌}
use Rattle.bloom_sig.proofs.PlaceLemmas.{member_up_to}
use Rattle.bloom_sig.proofs.signature.Signature.insert_up_to.Goals as goal

pub returns-then-has_all-clause-sets : goal.returns-then-has_all-clause-sets
returns-then-has_all-clause-sets c =
    member_up_to c.args.self.now c.args.line c.args.limit c.of-at.result (rw (← c.self.view_is) c.of-at.ensures.places) (sym c.has_all.ensures ∙ search rules)
