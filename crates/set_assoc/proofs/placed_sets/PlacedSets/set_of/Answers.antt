use Rattle.std.proofs.Common.{◌≡◌, ℕ, ◌*◌, ◌%◌, ◌^◌, ◌<◌, ap, sym, ◌∙◌, arith, w32}
use Rattle.std.specs.Int.{trailing_zeros}
use Rattle.std.proofs.Math.Pow.{pow-lt}
use Rattle.std.proofs.lemmas.Nat.{and_mask}
use Rattle.std.proofs.lemmas.Nat.Bits.{bit_at-trailing_zeros}
use Rattle.set_assoc.proofs.placed_sets.PlacedSets.set_of.Goals as goal

pub returns-then-self-bits-clause-place : goal.returns-then-self-bits-clause-place
returns-then-self-bits-clause-place g c =
    let sets : ℕ = c.self.inside.sets in
    let bits : ℕ = trailing_zeros w32 sets in
    let fits : sets < 2 ^ 32 = omega (arith, c.if-self-bits.true) in
    let few : bits < 32 = (bit_at-trailing_zeros w32 sets c.self.invariant.0.some fits).0 in
    let below : 2 ^ bits < 2 ^ 32 = pow-lt few in
    let power : 1 * 2 ^ bits % 2 ^ 32 ≡ 2 ^ bits = omega (arith, below) in
    let same : sets ≡ 2 ^ bits = c.if-self-bits.true ∙ power in
    rw (power, ← c.self.view_is)
    (and_mask c.args.line.0 bits ∙ ap (λ n. c.args.line.0 % n) (sym same ∙ sym c.self.invariant.0.count))
