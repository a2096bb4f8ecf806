-- A cache with one line changed.
use Rattle.std.proofs.Common.{◌≡◌, ℕ, ◌+◌, ◌%◌, Bool, true, false, ◌||◌, cond, eqb, List, [], ◌∷◌, refl, sym, ap, ◌∙◌, arith, Some}
use Rattle.std.specs.List.{count_by}
use Rattle.std.specs.Option.{is_some}
use Rattle.std.proofs.lemmas.List.Sums.{sum_by-cons}
use Rattle.std.proofs.lemmas.Bool.{eqb-true}
use Rattle.conda_base.specs.declared.Line.{Line}
use Rattle.write_masks.specs.declared.Masked.{Masked}
use Rattle.set_assoc.specs.Entries.{lookup}
use Rattle.nda_cache.specs.Tried.{Tried, known_of, put_line, masked_or_unknown}
use Rattle.nda_cache.proofs.LineFacts.{known-put}
use Rattle.try_runs.proofs.CachedFacts.{one_of}

-- the cache with another value of a line
abbrev pub with_known : Tried → Line → Masked → Tried
with_known cache l masked = record cache { lines = put_line l masked cache.lines }

lookup-put_other : (l k : Line) (masked : Masked) (lines : List (Line × Masked)) → eqb l.0 k.0 ≡ false → lookup k (put_line l masked lines) ≡ lookup k lines
lookup-put_other l k masked [] apart = rw apart refl
lookup-put_other l k masked (entry ∷ rest) apart = go (eqb entry.0.0 l.0) refl (lookup-put_other l k masked rest apart)
  where
    go : (b : Bool) → eqb entry.0.0 l.0 ≡ b → lookup k (put_line l masked rest) ≡ lookup k rest
        → lookup k (cond b ((l, masked) ∷ rest) (entry ∷ put_line l masked rest)) ≡ cond (eqb entry.0.0 k.0) (Some entry.1) (lookup k rest)
    go true e ih =
        let same : entry.0.0 ≡ l.0 = eqb-true entry.0.0 l.0 e in
        let off : eqb entry.0.0 k.0 ≡ false = ap (λ n. eqb n k.0) same ∙ apart in
        rw apart (rw off refl)
    go false e ih = ap (λ o. cond (eqb entry.0.0 k.0) (Some entry.1) o) ih

pub known_of-same : (cache : Tried) (l : Line) (masked : Masked) → known_of (with_known cache l masked) l ≡ masked
known_of-same cache l masked = ap masked_or_unknown (known-put l masked cache.lines)

pub known_of-other : (cache : Tried) (l k : Line) (masked : Masked) → eqb l.0 k.0 ≡ false → known_of (with_known cache l masked) k ≡ known_of cache k
known_of-other cache l k masked apart = ap masked_or_unknown (lookup-put_other l k masked cache.lines apart)

lookup-same : (l k : Line) (lines : List (Line × Masked)) → l.0 ≡ k.0 → lookup l lines ≡ lookup k lines
lookup-same l k [] same = refl
lookup-same l k (entry ∷ rest) same = ap (λ n. cond (eqb entry.0.0 n) (Some entry.1) (lookup l rest)) same ∙ ap (λ o. cond (eqb entry.0.0 k.0) (Some entry.1) o) (lookup-same l k rest same)

pub there-put : (l k : Line) (masked : Masked) (lines : List (Line × Masked)) → is_some (lookup k (put_line l masked lines)) ≡ (eqb l.0 k.0 || is_some (lookup k lines))
there-put l k masked lines = go (eqb l.0 k.0) refl
  where
    go : (b : Bool) → eqb l.0 k.0 ≡ b → is_some (lookup k (put_line l masked lines)) ≡ (b || is_some (lookup k lines))
    go true e =
        let same : l.0 ≡ k.0 = eqb-true l.0 k.0 e in
        ap is_some (sym (lookup-same l k (put_line l masked lines) same) ∙ known-put l masked lines)
    go false e = ap is_some (lookup-put_other l k masked lines e)

abbrev same_set : ℕ → Line → Line × Masked → Bool
same_set sets k e = eqb (e.0.0 % sets) (k.0 % sets)

-- how many lines a set has, with a line put
pub count-put : (sets : ℕ) (l k : Line) (masked : Masked) (lines : List (Line × Masked))
    → count_by (λ (entry : Line × Masked). eqb (entry.0.0 % sets) (k.0 % sets)) (put_line l masked lines)
    ≡ count_by (λ (entry : Line × Masked). eqb (entry.0.0 % sets) (k.0 % sets)) lines + cond (is_some (lookup l lines)) 0 (one_of sets k l)
count-put sets l k masked [] = refl
count-put sets l k masked (entry ∷ rest) =
    go (eqb entry.0.0 l.0) refl (count-put sets l k masked rest)
  where
    go : (b : Bool) → eqb entry.0.0 l.0 ≡ b
        → count_by (same_set sets k) (put_line l masked rest) ≡ count_by (same_set sets k) rest + cond (is_some (lookup l rest)) 0 (one_of sets k l)
        → count_by (same_set sets k) (cond b ((l, masked) ∷ rest) (entry ∷ put_line l masked rest)) ≡ count_by (same_set sets k) (entry ∷ rest) + cond (is_some (cond b (Some entry.1) (lookup l rest))) 0 (one_of sets k l)
    go true e ih =
        let same : entry.0.0 ≡ l.0 = eqb-true entry.0.0 l.0 e in
        let first = sum_by-cons (λ (x : Line × Masked). cond {A = ℕ} (same_set sets k x) 1 0) (l, masked) rest in
        let second = sum_by-cons (λ (x : Line × Masked). cond {A = ℕ} (same_set sets k x) 1 0) entry rest in
        let one : cond {A = ℕ} (eqb (entry.0.0 % sets) (k.0 % sets)) 1 0 ≡ cond {A = ℕ} (eqb (l.0 % sets) (k.0 % sets)) 1 0 = ap (λ n. cond {A = ℕ} (eqb (n % sets) (k.0 % sets)) 1 0) same in
        omega arith
    go false e ih =
        let first = sum_by-cons (λ (x : Line × Masked). cond {A = ℕ} (same_set sets k x) 1 0) entry (put_line l masked rest) in
        let second = sum_by-cons (λ (x : Line × Masked). cond {A = ℕ} (same_set sets k x) 1 0) entry rest in
        omega arith
