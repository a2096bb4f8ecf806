-- Dirty lines along the walk over all places.
use Rattle.std.proofs.Common.{◌≡◌, ◌≢◌, ℕ, zero, suc, ◌+◌, ◌*◌, ◌<◌, ◌≤◌, Bool, true, false, cond, not, eqb, leb, List, [], ◌∷◌, ◌++◌, Option, Some, None, length, get_or, ⊎_elim, sym, ap, subst, ◌∙◌, refl, append_assoc, arith}
use Rattle.std.specs.Prelude.{◌==◌}
use Rattle.std.specs.List.{filter, count_by, slice_get, AllPairs}
use Rattle.std.proofs.lemmas.Bool.{le-leb, lt-leb, cases_lt, cases_Bool, eqb-true, eq-eqb}
use Rattle.std.proofs.lemmas.List.Elements.{filter-append}
use Rattle.std.proofs.lemmas.List.Sums.{sum_by-append, sum_by-cons}
use Rattle.std.proofs.Math.Nat.{mul-le-mul_left}
use Rattle.conda_base.specs.declared.Line.{Line}
use Rattle.conda_base.specs.declared.Mesi.{Mesi}
use Rattle.conda_base.specs.declared.Mesi.TheVariants.{M, E, S}
use Rattle.line_memory.specs.Tags.{Tag, is_modified, cleaned_state, cleaned_line, modified, each_below}
use Rattle.line_memory.specs.Backing.{BackingView, IsBacking, IsFirstDirty, way_place, modified_from, dirty_from, dirty_in, flushed}

test_by_apart : (a b : ℕ) → a ≢ b → eqb a b ≡ false
test_by_apart a b apart = ⊎_elim (λ on. absurd (apart (eqb-true a b on))) (λ off. off) (cases_Bool (eqb a b))

-- lists that agree below a bound, end to end
pub each_same : {A : Type 0} (n : ℕ) (f g : ℕ → List A) → ((k : ℕ) → k < n → f k ≡ g k) → each_below n f ≡ each_below n g
each_same zero f g same = refl
each_same (suc n) f g same =
    ap (λ xs. xs ++ f n) (each_same n f g (λ k below. same k (omega arith))) ∙ ap (λ ys. each_below n g ++ ys) (same n (omega arith))

pub each_empty : {A : Type 0} (n : ℕ) (f : ℕ → List A) → ((k : ℕ) → k < n → f k ≡ []) → each_below n f ≡ []
each_empty zero f none = refl
each_empty (suc n) f none =
    ap (λ xs. xs ++ f n) (each_empty n f (λ k below. none k (omega arith))) ∙ none n (omega arith)

-- lists that are empty before k, and of which the k-th begins with some more elements
pub each_step : {A : Type 0} (n k : ℕ) (f g : ℕ → List A) (more : List A) → k < n → ((i : ℕ) → i < k → f i ≡ []) → ((i : ℕ) → i < k → g i ≡ []) → f k ≡ more ++ g k → ((i : ℕ) → k < i → i < n → f i ≡ g i) → each_below n f ≡ more ++ each_below n g
each_step zero k f g more below first second here after = absurd (omega arith)
each_step (suc n) k f g more below first second here after =
    ⊎_elim
    (λ (earlier : k < n).
    ap (λ xs. xs ++ f n) (each_step n k f g more earlier first second here (λ i past inside. after i past (omega arith))) ∙
    ap (λ ys. (more ++ each_below n g) ++ ys) (after n earlier (omega arith)) ∙ append_assoc more (each_below n g) (g n))
    (λ (from : n ≤ k).
    let same : k ≡ n = omega arith in
    let none_f : each_below n f ≡ [] = each_empty n f (λ i inside. first i (omega arith)) in
    let none_g : each_below n g ≡ [] = each_empty n g (λ i inside. second i (omega arith)) in
    let last : f n ≡ more ++ g n = ap f (sym same) ∙ here ∙ ap (λ i. more ++ g i) same in
    ap (λ xs. xs ++ f n) none_f ∙ last ∙ ap (λ xs. more ++ (xs ++ g n)) (sym none_g))
    (cases_lt k n)

each_filter : {A : Type 0} (p : A → Bool) (n : ℕ) (f : ℕ → List A) → filter p (each_below n f) ≡ each_below n (λ k. filter p (f k))
each_filter p zero f = refl
each_filter p (suc n) f = filter-append p (each_below n f) (f n) ∙ ap (λ xs. xs ++ filter p (f n)) (each_filter p n f)

each_count : {A : Type 0} (p : A → Bool) (n : ℕ) (f g : ℕ → List A) → ((k : ℕ) → k < n → count_by p (f k) ≤ count_by p (g k)) → count_by p (each_below n f) ≤ count_by p (each_below n g)
each_count p zero f g less = omega arith
each_count p (suc n) f g less =
    let earlier = each_count p n f g (λ k below. less k (omega arith)) in
    let here = less n (omega arith) in
    let left = sum_by-append (λ x. cond {A = ℕ} (p x) 1 0) (each_below n f) (f n) in
    let right = sum_by-append (λ x. cond {A = ℕ} (p x) 1 0) (each_below n g) (g n) in
    omega arith

-- the lines in M of one list, from a place on
pub modified_from-past : (from place : ℕ) (tags : List Tag) → place + length tags ≤ from → modified_from from place tags ≡ []
modified_from-past from place [] past = refl
modified_from-past from place (tag ∷ tags) past =
    rw (lt-leb from place (omega arith)) (modified_from-past from (place + 1) tags (omega arith))

pub modified_from-all : (from place : ℕ) (tags : List Tag) → from ≤ place → modified_from from place tags ≡ modified tags
modified_from-all from place [] within = refl
modified_from-all from place (tag ∷ tags) within =
    let rest = modified_from-all from (place + 1) tags (omega arith) in
    rw (le-leb from place within)
    (⊎_elim (λ yes. rw yes (ap (λ ls. tag.0 ∷ ls) rest)) (λ off. rw off rest) (cases_Bool (is_modified tag.1)))

-- the line at a way, where it is in M
abbrev pub modified_at : Option Tag → List Line
modified_at None = []
modified_at (Some tag) = if_modified tag (is_modified tag.1)
  where
    if_modified : Tag → Bool → List Line
    if_modified tag true = tag.0 ∷ []
    if_modified tag false = []

pub modified_from-step : (place way : ℕ) (tags : List Tag) → modified_from (place + way) place tags ≡ modified_at (slice_get tags way) ++ modified_from (place + way + 1) place tags
modified_from-step place way [] = refl
modified_from-step place zero (tag ∷ tags) =
    let here : leb (place + 0) place ≡ true = le-leb (place + 0) place (omega arith) in
    let after : leb (place + 0 + 1) place ≡ false = lt-leb (place + 0 + 1) place (omega arith) in
    let rest : modified_from (place + 0) (place + 1) tags ≡ modified_from (place + 0 + 1) (place + 1) tags =
    modified_from-all (place + 0) (place + 1) tags (omega arith) ∙ sym (modified_from-all (place + 0 + 1) (place + 1) tags (omega arith)) in
    rw (here, after)
    (⊎_elim (λ yes. rw yes (ap (λ ls. tag.0 ∷ ls) rest)) (λ off. rw off rest) (cases_Bool (is_modified tag.1)))
modified_from-step place (suc way) (tag ∷ tags) =
    let here : leb (place + suc way) place ≡ false = lt-leb (place + suc way) place (omega arith) in
    let after : leb (place + suc way + 1) place ≡ false = lt-leb (place + suc way + 1) place (omega arith) in
    let next : place + suc way ≡ place + 1 + way = omega arith in
    let P : ℕ → Type 0 = λ n. modified_from n (place + 1) tags ≡ modified_at (slice_get tags way) ++ modified_from (n + 1) (place + 1) tags in
    rw (here, after) (subst P (sym next) (modified_from-step (place + 1) way tags))

-- the dirty lines at or after the first place are all
pub dirty_from-zero : (b : BackingView) → dirty_from b 0 ≡ dirty_in b
dirty_from-zero b =
    each_same b.holders _ _
    (λ holder inside. each_same b.sets _ _ (λ set below. modified_from-all 0 (way_place b holder set 0) (b.tags holder set) (omega arith)))

-- the step of the walk: the dirty lines at or after a place are the line of that place, where it is in M, and those after it
pub dirty_from-step : (b : BackingView) (holder set way : ℕ) → ((h s : ℕ) → length (b.tags h s) ≤ b.ways) → holder < b.holders → set < b.sets → way < b.ways → dirty_from b (way_place b holder set way) ≡ modified_at (slice_get (b.tags holder set) way) ++ dirty_from b (way_place b holder set way + 1)
dirty_from-step b holder set way short inside below within =
    let p : ℕ = way_place b holder set way in
    let start : way_place b holder set 0 + way ≡ p = omega arith in
    let lists : ℕ → ℕ → ℕ → List Line = λ from h s. modified_from from (way_place b h s 0) (b.tags h s) in
    let before : (from h s : ℕ) → p ≤ from → h * b.sets + s < holder * b.sets + set → lists from h s ≡ [] =
    λ from h s past earlier.
    let gap = mul-le-mul_left b.ways earlier in
    let few = short h s in
    modified_from-past from (way_place b h s 0) (b.tags h s) (omega arith) in
    let after : (h s : ℕ) → holder * b.sets + set < h * b.sets + s → lists p h s ≡ lists (p + 1) h s =
    λ h s later.
    let gap = mul-le-mul_left b.ways later in
    modified_from-all p (way_place b h s 0) (b.tags h s) (omega arith) ∙ sym (modified_from-all (p + 1) (way_place b h s 0) (b.tags h s) (omega arith)) in
    let here : lists p holder set ≡ modified_at (slice_get (b.tags holder set) way) ++ lists (p + 1) holder set =
    rw (start) at (modified_from-step (way_place b holder set 0) way (b.tags holder set)) in
    each_step b.holders holder _ _ (modified_at (slice_get (b.tags holder set) way)) inside
    (λ h earlier. each_empty b.sets _ (λ s low. let gap = mul-le-mul_left b.sets earlier in before p h s (omega arith) (omega arith)))
    (λ h earlier. each_empty b.sets _ (λ s low. let gap = mul-le-mul_left b.sets earlier in before (p + 1) h s (omega arith) (omega arith)))
    (each_step b.sets set _ _ (modified_at (slice_get (b.tags holder set) way)) below
    (λ s earlier. before p holder s (omega arith) (omega arith))
    (λ s earlier. before (p + 1) holder s (omega arith) (omega arith))
    here
    (λ s later low. after holder s (omega arith)))
    (λ h later high. each_same b.sets _ _ (λ s low. let gap = mul-le-mul_left b.sets later in after h s (omega arith)))

-- it isn't this line
abbrev pub is_other : Line → Line → Bool
is_other l k = not (k.0 == l.0)

never_modified : (m : Mesi) → is_modified (cleaned_state m) ≡ false
never_modified M = refl
never_modified E = refl
never_modified S = refl

-- a flush takes its line out of the dirty lines, and leaves the others in their order
pub modified_from-cleaned : (l : Line) (from place : ℕ) (tags : List Tag) → modified_from from place (cleaned_line l tags) ≡ filter (is_other l) (modified_from from place tags)
modified_from-cleaned l from place [] = refl
modified_from-cleaned l from place (tag ∷ tags) =
    let rest = modified_from-cleaned l from (place + 1) tags in
    ⊎_elim
    (λ (here : leb from place ≡ true). ⊎_elim
    (λ (on : eqb tag.0.0 l.0 ≡ true). rw (here, on) (rw (never_modified tag.1)
    (⊎_elim (λ (dirty : is_modified tag.1 ≡ true). rw dirty (rw on rest)) (λ (off : is_modified tag.1 ≡ false). rw off rest) (cases_Bool (is_modified tag.1)))))
    (λ (apart : eqb tag.0.0 l.0 ≡ false). rw (here, apart)
    (⊎_elim (λ (dirty : is_modified tag.1 ≡ true). rw dirty (rw apart (ap (λ ls. tag.0 ∷ ls) rest))) (λ (off : is_modified tag.1 ≡ false). rw off rest) (cases_Bool (is_modified tag.1))))
    (cases_Bool (eqb tag.0.0 l.0)))
    (λ (past : leb from place ≡ false). rw past rest)
    (cases_Bool (leb from place))

pub dirty_from-flushed : (b : BackingView) (l : Line) (from : ℕ) → dirty_from (flushed b l) from ≡ filter (is_other l) (dirty_from b from)
dirty_from-flushed b l from =
    each_same b.holders _ _
    (λ holder inside.
    each_same b.sets _ _ (λ set below. modified_from-cleaned l from (way_place b holder set 0) (b.tags holder set)) ∙
    sym (each_filter (is_other l) b.sets (λ set. modified_from from (way_place b holder set 0) (b.tags holder set)))) ∙
    sym (each_filter (is_other l) b.holders (λ holder. each_below b.sets (λ set. modified_from from (way_place b holder set 0) (b.tags holder set))))

-- it is this line
abbrev pub is_this : Line → Line → Bool
is_this l k = k.0 == l.0

count-cons : (l x : Line) (ls : List Line) → count_by (is_this l) (x ∷ ls) ≡ cond (is_this l x) 1 0 + count_by (is_this l) ls
count-cons l x ls = sum_by-cons (λ k. cond {A = ℕ} (is_this l k) 1 0) x ls

-- the dirty lines from a place on are among all dirty lines
count-modified_from : (l : Line) (from place : ℕ) (tags : List Tag) → count_by (is_this l) (modified_from from place tags) ≤ count_by (is_this l) (modified tags)
count-modified_from l from place [] = omega arith
count-modified_from l from place (tag ∷ tags) =
    let rest = count-modified_from l from (place + 1) tags in
    let more = count-cons l tag.0 (modified tags) in
    let some = count-cons l tag.0 (modified_from from (place + 1) tags) in
    ⊎_elim
    (λ (dirty : is_modified tag.1 ≡ true). ⊎_elim
    (λ (here : leb from place ≡ true). rw (here, dirty) (omega arith))
    (λ (past : leb from place ≡ false). rw (past, dirty) (omega arith))
    (cases_Bool (leb from place)))
    (λ (off : is_modified tag.1 ≡ false). ⊎_elim
    (λ (here : leb from place ≡ true). rw (here, off) rest)
    (λ (past : leb from place ≡ false). rw (past, off) rest)
    (cases_Bool (leb from place)))
    (cases_Bool (is_modified tag.1))

count-dirty_from : (b : BackingView) (l : Line) (from : ℕ) → count_by (is_this l) (dirty_from b from) ≤ count_by (is_this l) (dirty_in b)
count-dirty_from b l from =
    each_count (is_this l) b.holders _ _
    (λ holder inside. each_count (is_this l) b.sets _ _ (λ set below. count-modified_from l from (way_place b holder set 0) (b.tags holder set)))

count_none : (l : Line) (ls : List Line) → ((k : ℕ) (d : Line) → k < length ls → (get_or ls k d).0 ≢ l.0) → count_by (is_this l) ls ≡ 0
count_none l [] none = refl
count_none l (x ∷ ls) none =
    let off : is_this l x ≡ false = test_by_apart x.0 l.0 (none 0 x (omega arith)) in
    count-cons l x ls ∙ ap (λ t. cond {A = ℕ} t 1 0 + count_by (is_this l) ls) off ∙
    (let rest = count_none l ls (λ k d below. none (suc k) d (omega arith)) in omega arith)

count_once : (l : Line) (ls : List Line) → AllPairs (λ a c. a.0 ≢ c.0) ls → count_by (is_this l) ls ≤ 1
count_once l [] apart = omega arith
count_once l (x ∷ ls) apart =
    let split = count-cons l x ls in
    let later = count_once l ls (λ i j d order below. apart (suc i) (suc j) d (omega arith) (omega arith)) in
    ⊎_elim
    (λ (on : is_this l x ≡ true).
    let same : x.0 ≡ l.0 = eqb-true x.0 l.0 on in
    let one : cond {A = ℕ} (is_this l x) 1 0 ≡ 1 = ap (λ t. cond {A = ℕ} t 1 0) on in
    let none = count_none l ls (λ k d below equal. apart 0 (suc k) d (omega arith) (omega arith) (same ∙ sym equal)) in
    omega arith)
    (λ (off : is_this l x ≡ false).
    let zero_here : cond {A = ℕ} (is_this l x) 1 0 ≡ 0 = ap (λ t. cond {A = ℕ} t 1 0) off in omega arith)
    (cases_Bool (is_this l x))

filter_none : (l : Line) (ls : List Line) → count_by (is_this l) ls ≡ 0 → filter (is_other l) ls ≡ ls
filter_none l [] none = refl
filter_none l (x ∷ ls) none =
    let split = count-cons l x ls in
    ⊎_elim
    (λ (on : is_this l x ≡ true).
    let one : cond {A = ℕ} (is_this l x) 1 0 ≡ 1 = ap (λ t. cond {A = ℕ} t 1 0) on in absurd (omega arith))
    (λ (off : is_this l x ≡ false).
    let zero_here : cond {A = ℕ} (is_this l x) 1 0 ≡ 0 = ap (λ t. cond {A = ℕ} t 1 0) off in
    rw off (ap (λ ks. x ∷ ks) (filter_none l ls (omega arith))))
    (cases_Bool (is_this l x))

-- after a flush of the first dirty line the walk goes on as before
pub dirty_after_flush : (b : BackingView) (from place : ℕ) (l : Line) → IsBacking b → IsFirstDirty b from place l → dirty_from (flushed b l) (place + 1) ≡ dirty_from b (place + 1)
dirty_after_flush b from place l is first =
    let all = count_once l (dirty_in b) is.single in
    let some = count-dirty_from b l place in
    let split : count_by (is_this l) (dirty_from b place) ≡ cond (is_this l l) 1 0 + count_by (is_this l) (dirty_from b (place + 1)) =
    ap (λ ls. count_by (is_this l) ls) first.first ∙ count-cons l l (dirty_from b (place + 1)) in
    let one : cond {A = ℕ} (is_this l l) 1 0 ≡ 1 = ap (λ t. cond {A = ℕ} t 1 0) (eq-eqb l.0 l.0 refl) in
    dirty_from-flushed b l (place + 1) ∙ filter_none l (dirty_from b (place + 1)) (omega arith)
