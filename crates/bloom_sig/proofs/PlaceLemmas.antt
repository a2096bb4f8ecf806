-- A line that is inserted again.
use Rattle.std.proofs.Common.{◌≡◌, ℕ, ◌^◌, ◌≤◌, Bool, true, false, List, refl, sym, subst, cond, arith}
use Rattle.std.proofs.Math.Nat.{pow-le-pow_right}
use Rattle.conda_base.specs.declared.Line.{Line}
use Rattle.bloom_sig.specs.declared.places.Places.{Places}
use Rattle.bloom_sig.specs.Places.{places_of, has_places}
use Rattle.bloom_sig.specs.Signatures.{Sets, AreSegments, inserted, is_full_for}
use Rattle.bloom_sig.proofs.ImageLemmas.{member_is_no_change}
use Rattle.bloom_sig.proofs.SegmentLemmas.{members-le-length}

pub member_at : (s : Sets) (line : Line) (at : Places) → at ≡ places_of s.bits line → has_places s at ≡ true → s ≡ inserted s line
member_at s line at is on = sym (member_is_no_change s line (subst (λ p. has_places s p ≡ true) is on))

pub member_up_to : (s : Sets) (line : Line) (limit : ℕ) (at : Places) → at ≡ places_of s.bits line → has_places s at ≡ true → s ≡ cond (is_full_for s line limit) s (inserted s line)
member_up_to s line limit at is on = go (is_full_for s line limit)
  where
    go : (full : Bool) → s ≡ cond full s (inserted s line)
    go true = refl
    go false = member_at s line at is on

-- four segments of at most 1,024 bits
pub fill-most : (bits : ℕ) (a b c d : List Bool) (fill : ℕ) → AreSegments bits a b c d fill → fill ≤ 4096
fill-most bits a b c d fill are =
    let most : 2 ^ bits ≤ 2 ^ 10 = pow-le-pow_right (omega arith) are.few in
    let first = members-le-length a in
    let second = members-le-length b in
    let third = members-le-length c in
    let fourth = members-le-length d in
    omega (arith, are.first, are.second, are.third, are.fourth, are.filled)
