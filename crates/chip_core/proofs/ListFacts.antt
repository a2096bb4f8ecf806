-- Lists with one member changed.
use Rattle.std.proofs.Common.{◌≡◌, ◌≢◌, cond, ltb, true, false, ℕ, zero, suc, ◌+◌, List, [], ◌∷◌, ◌++◌, take, drop, length, map, set, refl, ap, arith, Some, None}
use Rattle.std.specs.Prelude.{slice_get}
use Rattle.std.proofs.lemmas.Bool.Decides.{nat_tests}

some-eq : {A : Type 0} (x y : A) → Some x ≡ Some y → x ≡ y
some-eq x y e = cc

map-suc : {A : Type 0} (f : A → A) (xs : List A) (i : ℕ) (x y : A)
    → slice_get (map f (take i xs) ++ drop i xs) i ≡ Some x → y ≡ f x
    → set (map f (take i xs) ++ drop i xs) i y ≡ map f (take (suc i) xs) ++ drop (suc i) xs
map-suc f [] zero x y at is = cc
map-suc f [] (suc i) x y at is = cc
map-suc f (z ∷ zs) zero x y at is = ap (λ v. v ∷ zs) (rw (some-eq z x at) is)
map-suc f (z ∷ zs) (suc i) x y at is = ap (λ rest. f z ∷ rest) (map-suc f zs i x y at is)

plus_one : (i : ℕ) → i + 1 ≡ suc i
plus_one i = omega arith

-- a map over a list, one member further
pub map-next : {A : Type 0} (f : A → A) (xs : List A) (i : ℕ) (x y : A)
    → slice_get (map f (take i xs) ++ drop i xs) i ≡ Some x → y ≡ f x
    → set (map f (take i xs) ++ drop i xs) i y ≡ map f (take (i + 1) xs) ++ drop (i + 1) xs
map-next f xs i x y at is = rw plus_one (map-suc f xs i x y at is)

ltb-zero : (i : ℕ) → ltb i 0 ≡ false
ltb-zero i = grind (arith, nat_tests)

zero-ltb : (n : ℕ) → ltb 0 (suc n) ≡ true
zero-ltb n = grind (arith, nat_tests)

ltb-suc : (i n : ℕ) → ltb (suc i) (suc n) ≡ ltb i n
ltb-suc i n = grind (arith, nat_tests)

pub slice_get-set_same : {A : Type 0} (xs : List A) (i : ℕ) (x : A) → slice_get (set xs i x) i ≡ cond (ltb i (length xs)) (Some x) None
slice_get-set_same [] i x = rw ltb-zero refl
slice_get-set_same (y ∷ ys) zero x = rw zero-ltb refl
slice_get-set_same (y ∷ ys) (suc i) x = rw ltb-suc (slice_get-set_same ys i x)

pub slice_get-set_other : {A : Type 0} (xs : List A) (i k : ℕ) (x : A) → k ≢ i → slice_get (set xs i x) k ≡ slice_get xs k
slice_get-set_other [] i k x other = refl
slice_get-set_other (y ∷ ys) zero zero x other = absurd (other refl)
slice_get-set_other (y ∷ ys) zero (suc k) x other = refl
slice_get-set_other (y ∷ ys) (suc i) zero x other = refl
slice_get-set_other (y ∷ ys) (suc i) (suc k) x other = slice_get-set_other ys i k x (λ e. other (ap suc e))

-- the member that comes next is still the one of the list
pub map-here : {A : Type 0} (f : A → A) (xs : List A) (i : ℕ) → slice_get (map f (take i xs) ++ drop i xs) i ≡ slice_get xs i
map-here f [] zero = refl
map-here f [] (suc i) = refl
map-here f (x ∷ xs) zero = refl
map-here f (x ∷ xs) (suc i) = map-here f xs i
