-- The lines in the near-data cache of a try, and how many of them a set has.
use Rattle.std.proofs.Common.{◌≡◌, ℕ, ◌+◌, ◌%◌, Bool, true, false, not, ◌&&◌, ◌||◌, cond, eqb, List, [], ◌∷◌, ◌++◌, length, refl, sym, ap, ◌∙◌, arith}
use Rattle.std.specs.List.{count_by, filter}
use Rattle.std.proofs.lemmas.List.{length-append}
use Rattle.std.proofs.lemmas.List.Elements.{filter-append}
use Rattle.std.proofs.lemmas.List.Sums.{length-filter, sum_by-cons, sum_by_push}
use Rattle.std.proofs.lemmas.Bool.{eqb-true, eq-eqb, or_right, or_left, both_ways}
use Rattle.conda_base.specs.declared.Line.{Line}
use Rattle.conda_base.specs.LineLists.{names, with_new}
use Rattle.try_runs.specs.Ends.{cached, in_set}
use Rattle.conda_base.proofs.LineListLemmas.{or_false, same_line-swap, names-append, names-push, names-same}
use Rattle.try_runs.proofs.LineFacts.{AreDistinct}

and_no : (b : Bool) → (b && false) ≡ false
and_no true = refl
and_no false = refl

and_yes : (b : Bool) → (b && true) ≡ b
and_yes true = refl
and_yes false = refl

-- ---- which lines are there

-- a line that isn't among those read isn't left out
names-others : (reads ys : List Line) (l : Line) → names reads l ≡ false → names (filter (λ k. not (names reads k)) ys) l ≡ names ys l
names-others reads [] l out = refl
names-others reads (y ∷ ys) l out = go (names reads y) refl (names-others reads ys l out)
  where
    go : (b : Bool) → names reads y ≡ b → names (filter (λ k. not (names reads k)) ys) l ≡ names ys l
        → names (cond (not b) (y ∷ filter (λ k. not (names reads k)) ys) (filter (λ k. not (names reads k)) ys)) l ≡ (eqb y.0 l.0 || names ys l)
    go false e ih = ap (λ b. eqb y.0 l.0 || b) ih
    go true e ih = other (eqb y.0 l.0) refl
      where
        other : (b : Bool) → eqb y.0 l.0 ≡ b → names (filter (λ k. not (names reads k)) ys) l ≡ (b || names ys l)
        other true d = absurd (both_ways _ out (sym (names-same reads y l (eqb-true y.0 l.0 d)) ∙ e))
        other false d = ih

pub names-cached : (reads writes : List Line) (l : Line) → names (cached reads writes) l ≡ (names reads l || names writes l)
names-cached reads writes l = names-append reads (filter (λ k. not (names reads k)) writes) l ∙ go (names reads l) refl
  where
    go : (b : Bool) → names reads l ≡ b → (b || names (filter (λ k. not (names reads k)) writes) l) ≡ (b || names writes l)
    go true e = refl
    go false e = names-others reads writes l e

-- a count among those that another test lets through
count-others : (p q : Line → Bool) (ys : List Line) → count_by p (filter q ys) ≡ count_by (λ k. p k && q k) ys
count-others p q [] = refl
count-others p q (y ∷ ys) = go (q y) refl (count-others p q ys)
  where
    go : (b : Bool) → q y ≡ b → count_by p (filter q ys) ≡ count_by (λ k. p k && q k) ys
        → count_by p (cond b (y ∷ filter q ys) (filter q ys)) ≡ count_by (λ k. p k && q k) (y ∷ ys)
    go true e ih =
        let one = sum_by-cons (λ k. cond (p k) 1 0) y (filter q ys) in
        let two = sum_by-cons (λ k. cond (p k && q k) 1 0) y ys in
        let same : cond {A = ℕ} (p y && q y) 1 0 ≡ cond {A = ℕ} (p y) 1 0 = ap (λ b. cond {A = ℕ} (p y && b) 1 0) e ∙ ap (λ b. cond {A = ℕ} b 1 0) (and_yes (p y)) in
        omega arith
    go false e ih =
        let two = sum_by-cons (λ k. cond (p k && q k) 1 0) y ys in
        let same : cond {A = ℕ} (p y && q y) 1 0 ≡ 0 = ap (λ b. cond {A = ℕ} (p y && b) 1 0) e ∙ ap (λ b. cond {A = ℕ} b 1 0) (and_no (p y)) in
        omega arith

-- ---- how many of them a set has

-- those read, and the others stored to
abbrev is_near : List Line → List Line → Line → Bool
is_near reads writes l = names reads l || names writes l

-- how many of them are in the set of a line
abbrev near_count : ℕ → List Line → List Line → Line → ℕ
near_count sets reads writes l =
    count_by (λ (k : Line). eqb (k.0 % sets) (l.0 % sets)) reads + count_by (λ (k : Line). eqb (k.0 % sets) (l.0 % sets) && not (names reads k)) writes

-- one line more in the count of a set
abbrev pub one_of : ℕ → Line → Line → ℕ
one_of sets l k = cond (eqb (k.0 % sets) (l.0 % sets)) 1 0

abbrev beside : ℕ → List Line → Line → Line → Bool
beside sets reads l k = eqb (k.0 % sets) (l.0 % sets) && not (names reads k)

-- a line of the other list that is read doesn't count any more
beside-read : (sets : ℕ) (reads : List Line) (l n : Line) (writes : List Line) → names reads n ≡ false → AreDistinct writes
    → count_by (beside sets (reads ++ n ∷ []) l) writes + cond (names writes n) (one_of sets l n) 0 ≡ count_by (beside sets reads l) writes
beside-read sets reads l n [] out are = refl
beside-read sets reads l n (w ∷ writes) out are =
    let ih = beside-read sets reads l n writes out are.1 in
    let first = sum_by-cons (λ k. cond (beside sets (reads ++ n ∷ []) l k) 1 0) w writes in
    let second = sum_by-cons (λ k. cond (beside sets reads l k) 1 0) w writes in
    go (eqb w.0 n.0) refl ih first second
  where
    go : (b : Bool) → eqb w.0 n.0 ≡ b
        → count_by (beside sets (reads ++ n ∷ []) l) writes + cond (names writes n) (one_of sets l n) 0 ≡ count_by (beside sets reads l) writes
        → count_by (beside sets (reads ++ n ∷ []) l) (w ∷ writes) ≡ cond (beside sets (reads ++ n ∷ []) l w) 1 0 + count_by (beside sets (reads ++ n ∷ []) l) writes
        → count_by (beside sets reads l) (w ∷ writes) ≡ cond (beside sets reads l w) 1 0 + count_by (beside sets reads l) writes
        → count_by (beside sets (reads ++ n ∷ []) l) (w ∷ writes) + cond (b || names writes n) (one_of sets l n) 0 ≡ count_by (beside sets reads l) (w ∷ writes)
    go true e ih first second =
        let same : w.0 ≡ n.0 = eqb-true w.0 n.0 e in
        let now : names (reads ++ n ∷ []) w ≡ true = names-push reads n w ∙ or_right (names reads w) (eqb n.0 w.0) (eq-eqb n.0 w.0 (sym same)) in
        let before : names reads w ≡ false = names-same reads w n same ∙ out in
        let gone : names writes n ≡ false = names-same writes n w (sym same) ∙ are.0 in
        let x : cond {A = ℕ} (beside sets (reads ++ n ∷ []) l w) 1 0 ≡ 0 = ap (λ b. cond {A = ℕ} (eqb (w.0 % sets) (l.0 % sets) && not b) 1 0) now ∙ ap (λ b. cond {A = ℕ} b 1 0) (and_no (eqb (w.0 % sets) (l.0 % sets))) in
        let y : cond {A = ℕ} (beside sets reads l w) 1 0 ≡ one_of sets l n = ap (λ b. cond {A = ℕ} (eqb (w.0 % sets) (l.0 % sets) && not b) 1 0) before ∙ ap (λ b. cond {A = ℕ} b 1 0) (and_yes (eqb (w.0 % sets) (l.0 % sets))) ∙ ap (λ i. cond {A = ℕ} (eqb (i % sets) (l.0 % sets)) 1 0) same in
        let z : cond (names writes n) (one_of sets l n) 0 ≡ 0 = ap (λ b. cond b (one_of sets l n) 0) gone in
        omega arith
    go false e ih first second =
        let now : names (reads ++ n ∷ []) w ≡ names reads w = names-push reads n w ∙ ap (λ b. names reads w || b) (same_line-swap w.0 n.0 e) ∙ or_false (names reads w) in
        let x : cond {A = ℕ} (beside sets (reads ++ n ∷ []) l w) 1 0 ≡ cond {A = ℕ} (beside sets reads l w) 1 0 = ap (λ b. cond {A = ℕ} (eqb (w.0 % sets) (l.0 % sets) && not b) 1 0) now in
        omega arith

-- a line that is read for the first time
near_count-read : (sets : ℕ) (reads writes : List Line) (n l : Line) → names reads n ≡ false → AreDistinct writes
    → near_count sets (reads ++ n ∷ []) writes l ≡ near_count sets reads writes l + cond (is_near reads writes n) 0 (one_of sets l n)
near_count-read sets reads writes n l out are =
    let more = sum_by_push (λ (k : Line). cond {A = ℕ} (eqb (k.0 % sets) (l.0 % sets)) 1 0) reads n in
    let rest = beside-read sets reads l n writes out are in
    let near : cond (is_near reads writes n) 0 (one_of sets l n) ≡ cond (names writes n) 0 (one_of sets l n) = ap (λ b. cond (b || names writes n) 0 (one_of sets l n)) out in
    go (names writes n) rest near
  where
    go : (b : Bool) → count_by (beside sets (reads ++ n ∷ []) l) writes + cond b (one_of sets l n) 0 ≡ count_by (beside sets reads l) writes
        → cond (is_near reads writes n) 0 (one_of sets l n) ≡ cond b 0 (one_of sets l n)
        → near_count sets (reads ++ n ∷ []) writes l ≡ near_count sets reads writes l + cond (is_near reads writes n) 0 (one_of sets l n)
    go true rest near =
        let more = sum_by_push (λ (k : Line). cond {A = ℕ} (eqb (k.0 % sets) (l.0 % sets)) 1 0) reads n in omega arith
    go false rest near =
        let more = sum_by_push (λ (k : Line). cond {A = ℕ} (eqb (k.0 % sets) (l.0 % sets)) 1 0) reads n in omega arith

-- a line that is stored to
near_count-written : (sets : ℕ) (reads writes : List Line) (n l : Line)
    → near_count sets reads (with_new writes n) l ≡ near_count sets reads writes l + cond (is_near reads writes n) 0 (one_of sets l n)
near_count-written sets reads writes n l = go (names writes n) refl (names reads n) refl
  where
    go : (b : Bool) → names writes n ≡ b → (r : Bool) → names reads n ≡ r
        → near_count sets reads (cond b writes (writes ++ n ∷ [])) l ≡ near_count sets reads writes l + cond (is_near reads writes n) 0 (one_of sets l n)
    go true e r f =
        let near : is_near reads writes n ≡ true = or_right (names reads n) (names writes n) e in
        let none : cond (is_near reads writes n) 0 (one_of sets l n) ≡ 0 = ap (λ x. cond x 0 (one_of sets l n)) near in
        omega arith
    go false e true f =
        let near : is_near reads writes n ≡ true = or_left (names reads n) (names writes n) f in
        let none : cond (is_near reads writes n) 0 (one_of sets l n) ≡ 0 = ap (λ x. cond x 0 (one_of sets l n)) near in
        let more = sum_by_push (λ k. cond {A = ℕ} (beside sets reads l k) 1 0) writes n in
        let x : cond {A = ℕ} (beside sets reads l n) 1 0 ≡ 0 = ap (λ b. cond {A = ℕ} (eqb (n.0 % sets) (l.0 % sets) && not b) 1 0) f ∙ ap (λ b. cond {A = ℕ} b 1 0) (and_no (eqb (n.0 % sets) (l.0 % sets))) in
        omega arith
    go false e false f =
        let near : is_near reads writes n ≡ false = ap (λ r. r || names writes n) f ∙ e in
        let some : cond (is_near reads writes n) 0 (one_of sets l n) ≡ one_of sets l n = ap (λ x. cond x 0 (one_of sets l n)) near in
        let more = sum_by_push (λ k. cond {A = ℕ} (beside sets reads l k) 1 0) writes n in
        let x : cond {A = ℕ} (beside sets reads l n) 1 0 ≡ one_of sets l n = ap (λ b. cond {A = ℕ} (eqb (n.0 % sets) (l.0 % sets) && not b) 1 0) f ∙ ap (λ b. cond {A = ℕ} b 1 0) (and_yes (eqb (n.0 % sets) (l.0 % sets))) in
        omega arith

near_count-cached : (sets : ℕ) (reads writes : List Line) (l : Line) → near_count sets reads writes l ≡ length (in_set sets l (cached reads writes))
near_count-cached sets reads writes l =
    let p : Line → Bool = λ k. eqb (k.0 % sets) (l.0 % sets) in
    let q : Line → Bool = λ k. not (names reads k) in
    let apart : length (filter p (reads ++ filter q writes)) ≡ length (filter p reads) + length (filter p (filter q writes)) =
    ap length (filter-append p reads (filter q writes)) ∙ length-append (filter p reads) (filter p (filter q writes)) in
    let one = length-filter p reads in
    let two = length-filter p (filter q writes) in
    let three = count-others p q writes in
    omega arith

-- how many lines of a set are there
abbrev pub set_size : ℕ → Line → List Line → ℕ
set_size sets l lines = length (in_set sets l lines)

-- with a line that is read for the first time
pub set_size-read : (sets : ℕ) (reads writes : List Line) (n l : Line) → names reads n ≡ false → AreDistinct writes
    → set_size sets l (cached (reads ++ n ∷ []) writes) ≡ set_size sets l (cached reads writes) + cond (names (cached reads writes) n) 0 (one_of sets l n)
set_size-read sets reads writes n l out are =
    sym (near_count-cached sets (reads ++ n ∷ []) writes l)
    ∙ near_count-read sets reads writes n l out are
    ∙ ap (λ m. m + cond (is_near reads writes n) 0 (one_of sets l n)) (near_count-cached sets reads writes l)
    ∙ ap (λ b. set_size sets l (cached reads writes) + cond b 0 (one_of sets l n)) (sym (names-cached reads writes n))

-- with a line that is stored to
pub set_size-written : (sets : ℕ) (reads writes : List Line) (n l : Line)
    → set_size sets l (cached reads (with_new writes n)) ≡ set_size sets l (cached reads writes) + cond (names (cached reads writes) n) 0 (one_of sets l n)
set_size-written sets reads writes n l =
    sym (near_count-cached sets reads (with_new writes n) l)
    ∙ near_count-written sets reads writes n l
    ∙ ap (λ m. m + cond (is_near reads writes n) 0 (one_of sets l n)) (near_count-cached sets reads writes l)
    ∙ ap (λ b. set_size sets l (cached reads writes) + cond b 0 (one_of sets l n)) (sym (names-cached reads writes n))
