-- No access, commit or flush makes a line dirty but a store to it.
use Rattle.std.proofs.Common.{◌≡◌, ◌<◌, ℕ, zero, suc, Bool, true, false, List, [], ◌∷◌, refl, sym, ◌∙◌, subst, arith, ◌&&◌, cond, eqb, not, ◌⊎◌, inl, inr, Option, Some, None, map, take}
use Rattle.std.specs.List.{filter}
use Rattle.std.proofs.lemmas.Bool.{cond_both, eqb-true, or_parts, or_from, cases_eq}
use Rattle.set_assoc.specs.Entries.{lookup}
use Rattle.conda_base.specs.declared.Line.{Line}
use Rattle.conda_base.specs.declared.Mesi.{Mesi}
use Rattle.conda_base.specs.declared.Mesi.TheVariants.{M, E, S}
use Rattle.line_memory.specs.Tags.{Tag, Tags, is_modified, without_line, cleaned_state, cleaned_at, modified, each_below, Shape, set_number, held_state, dirty_lines}
use Rattle.conda_base.specs.LineLists.{names, same_line, line_list}
use Rattle.offload_calls.specs.LineUses.{LineUse, stored_line}
use Rattle.conda_base.proofs.LineListLemmas.{line_eq, names-append}
use Rattle.line_memory.specs.Access.{is_held_elsewhere, put_front, shared_at, loaded_state, list_beside_load, after_load, after_store, after_commit, cleaned_tag, after_lock}
use Rattle.chip_laws.specs.Uses.{after_use, flush_after}

-- a list of tags has no M of a line
abbrev pub NoM : Line → List Tag → Type 0
NoM l ts = names (modified ts) l ≡ false

names-each : (n : ℕ) (f : ℕ → List Line) (l : Line) → ((k : ℕ) → k < n → names (f k) l ≡ false) → names (each_below n f) l ≡ false
names-each zero f l h = refl
names-each (suc n) f l h =
    names-append (each_below n f) (f n) l ∙ or_from _ _ (names-each n f l (λ k u. h k (omega arith))) (h n (omega arith))

each_at : (n : ℕ) (f : ℕ → List Line) (l : Line) (k : ℕ) → names (each_below n f) l ≡ false → k < n → names (f k) l ≡ false
each_at zero f l k h u = absurd (omega arith)
each_at (suc n) f l k h u = go (cases_eq k n) (or_parts (names (each_below n f) l) (names (f n) l) (sym (names-append (each_below n f) (f n) l) ∙ h)) (each_at n f l k)
  where
    go : ((k ≡ n) ⊎ (k ≡ n → ⊥)) → (names (each_below n f) l ≡ false) × (names (f n) l ≡ false)
        → (names (each_below n f) l ≡ false → k < n → names (f k) l ≡ false) → names (f k) l ≡ false
    go (inl e) p ih = rw e p.1
    go (inr ne) p ih = ih p.0 (omega arith)

-- a line that is not dirty is in M nowhere, and the other way round
pub dirty_none : (c : Shape) (tags : Tags) (l : Line) (h s : ℕ) → names (dirty_lines c tags) l ≡ false → h < c.holders → s < c.sets → NoM l (tags h s)
dirty_none c tags l h s d u v =
    each_at c.sets (λ s. modified (tags h s)) l s
    (each_at c.holders (λ h. each_below c.sets (λ s. modified (tags h s))) l h d u) v

pub none_dirty : (c : Shape) (tags : Tags) (l : Line) → ((h s : ℕ) → h < c.holders → s < c.sets → NoM l (tags h s)) → names (dirty_lines c tags) l ≡ false
none_dirty c tags l f =
    names-each c.holders (λ h. each_below c.sets (λ s. modified (tags h s))) l
    (λ h u. names-each c.sets (λ s. modified (tags h s)) l (λ s v. f h s u v))

-- an entry is no M of a line
abbrev pub NotM : Line → Tag → Type 0
NotM l t = (is_modified t.1 && same_line t.0 l) ≡ false

-- one entry in front
front : (l : Line) (t : Tag) (ts : List Tag) → NotM l t → NoM l ts → NoM l (t ∷ ts)
front l t ts h k = go (is_modified t.1) h
  where
    go : (b : Bool) → (b && same_line t.0 l) ≡ false → names (cond b (t.0 ∷ modified ts) (modified ts)) l ≡ false
    go true h = or_from (same_line t.0 l) (names (modified ts) l) h k
    go false h = k

front_parts : (l : Line) (t : Tag) (ts : List Tag) → NoM l (t ∷ ts) → NotM l t × NoM l ts
front_parts l t ts h = go (is_modified t.1) h
  where
    go : (b : Bool) → names (cond b (t.0 ∷ modified ts) (modified ts)) l ≡ false → ((b && same_line t.0 l) ≡ false) × (names (modified ts) l ≡ false)
    go true h = or_parts (same_line t.0 l) (names (modified ts) l) h
    go false h = (refl, h)

-- an edit of single entries that makes no new M
mapped : (f : Tag → Tag) (l : Line) → ((t : Tag) → NotM l t → NotM l (f t)) → (ts : List Tag) → NoM l ts → NoM l (map f ts)
mapped f l g [] h = refl
mapped f l g (t ∷ ts) h =
    let p : NotM l t × NoM l ts = front_parts l t ts h in
    front l (f t) (map f ts) (g t p.0) (mapped f l g ts p.1)

filtered : (q : Tag → Bool) (l : Line) (ts : List Tag) → NoM l ts → NoM l (filter q ts)
filtered q l [] h = refl
filtered q l (t ∷ ts) h =
    let p : NotM l t × NoM l ts = front_parts l t ts h in
    cond_both (q t) (t ∷ filter q ts) (filter q ts) (NoM l) (λ _. front l t (filter q ts) p.0 (filtered q l ts p.1)) (λ _. filtered q l ts p.1)

taken : (n : ℕ) (l : Line) (ts : List Tag) → NoM l ts → NoM l (take n ts)
taken zero l ts h = refl
taken (suc n) l [] h = refl
taken (suc n) l (t ∷ ts) h =
    let p : NotM l t × NoM l ts = front_parts l t ts h in
    front l t (take n ts) p.0 (taken n l ts p.1)

cleaned : (l : Line) (m : Mesi) (k : Line) → NotM l (k, cleaned_state m)
cleaned l M k = refl
cleaned l E k = refl
cleaned l S k = refl

share_makes : (n l : Line) (t : Tag) → NotM l t → NotM l (shared_at n t)
share_makes n l t h = cond_both (same_line t.0 n) (t.0, S) t (NotM l) (λ _. refl) (λ _. h)

clean_makes : (n l : Line) (t : Tag) → NotM l t → NotM l (cleaned_at n t)
clean_makes n l t h = cond_both (same_line t.0 n) (t.0, cleaned_state t.1) t (NotM l) (λ _. cleaned l t.1 t.0) (λ _. h)

all_clean : (l : Line) (ts : List Tag) → NoM l (map cleaned_tag ts)
all_clean l [] = refl
all_clean l (t ∷ ts) = front l (cleaned_tag t) (map cleaned_tag ts) (cleaned l t.1 t.0) (all_clean l ts)

-- what a list holds in M is an M of it
held_m : (l n : Line) (ts : List Tag) (m : Mesi) → lookup n ts ≡ Some m → NoM l ts → NotM l (n, m)
held_m l n [] m e h = absurd (let k : None ≡ Some m = e in cc)
held_m l n (t ∷ ts) m e h =
    let p : NotM l t × NoM l ts = front_parts l t ts h in
    go (same_line t.0 n) refl e p (held_m l n ts m)
  where
    go : (b : Bool) → same_line t.0 n ≡ b → cond b (Some t.1) (lookup n ts) ≡ Some m → NotM l t × NoM l ts
        → (lookup n ts ≡ Some m → NoM l ts → NotM l (n, m)) → NotM l (n, m)
    go true d e p ih =
        let same : t.1 ≡ m = cc in
        let at : t.0 ≡ n = line_eq t.0 n d in
        subst (λ k. NotM l (k, m)) at (subst (λ x. NotM l (t.0, x)) same p.0)
    go false d e p ih = ih e p.1

put : (ways : ℕ) (l n : Line) (m : Mesi) (ts : List Tag) → NotM l (n, m) → NoM l ts → NoM l (put_front ways n m ts)
put ways l n m ts h k =
    taken ways l ((n, m) ∷ without_line n ts) (front l (n, m) (without_line n ts) h (filtered (λ (t : Tag). not (same_line t.0 n)) l ts k))

load_keeps : (c : Shape) (tags : Tags) (h : ℕ) (n l : Line) (k s : ℕ) → NoM l (tags k s) → NoM l (after_load c tags h n k s)
load_keeps c tags h n l k s d =
    cond_both (eqb s (set_number c n)) _ (tags k s) (NoM l)
    (λ e. cond_both (eqb k h) _ _ (NoM l)
    (λ f. mine (held_state c tags h n) refl (subst (λ i. NoM l (tags i (set_number c n))) (eqb-true k h f) (subst (λ i. NoM l (tags k i)) (eqb-true s (set_number c n) e) d)))
    (λ _. other (held_state c tags h n)))
    (λ _. d)
  where
    mine : (o : Option Mesi) → held_state c tags h n ≡ o → NoM l (tags h (set_number c n)) → NoM l (put_front c.ways n (loaded_state c tags h n o) (tags k s))
    mine (Some m) e own = put c.ways l n m (tags k s) (held_m l n (tags h (set_number c n)) m e own) d
    mine None e own =
        put c.ways l n (cond (is_held_elsewhere c tags h n) S E) (tags k s)
        (cond_both (is_held_elsewhere c tags h n) S E (λ m. NotM l (n, m)) (λ _. refl) (λ _. refl)) d

    other : (o : Option Mesi) → NoM l (list_beside_load n o (tags k s))
    other (Some m) = d
    other None = mapped (shared_at n) l (share_makes n l) (tags k s) d

store_keeps : (c : Shape) (tags : Tags) (h : ℕ) (n l : Line) (k s : ℕ) → same_line n l ≡ false → NoM l (tags k s) → NoM l (after_store c tags h n k s)
store_keeps c tags h n l k s ne d =
    cond_both (eqb s (set_number c n)) _ (tags k s) (NoM l)
    (λ _. cond_both (eqb k h) _ _ (NoM l)
    (λ _. put c.ways l n M (tags k s) ne d) (λ _. filtered (λ (t : Tag). not (same_line t.0 n)) l (tags k s) d))
    (λ _. d)

access_keeps : (c : Shape) (tags : Tags) (h : ℕ) (n l : Line) (b : Bool) (k s : ℕ) → names (line_list (cond b (Some n) None)) l ≡ false
    → NoM l (tags k s) → NoM l (cond b (after_store c tags h n) (after_load c tags h n) k s)
access_keeps c tags h n l true k s out d = store_keeps c tags h n l k s (or_parts (same_line n l) false out).0 d
access_keeps c tags h n l false k s out d = load_keeps c tags h n l k s d

-- an access that doesn't store to a line makes no M of it
pub use_keeps : (c : Shape) (tags : Tags) (h : ℕ) (u : Option LineUse) (l : Line) (k s : ℕ) → names (line_list (stored_line u)) l ≡ false
    → NoM l (tags k s) → NoM l (after_use c tags h u k s)
use_keeps c tags h None l k s out d = d
use_keeps c tags h (Some u) l k s out d = access_keeps c tags h u.line l u.stores k s out d

pub commit_keeps : (tags : Tags) (ls : List Line) (l : Line) (k s : ℕ) → NoM l (tags k s) → NoM l (after_commit tags ls k s)
commit_keeps tags ls l k s d = filtered (λ (t : Tag). not (names ls t.0)) l (tags k s) d

pub lock_cleans : (tags : Tags) (l : Line) (k s : ℕ) → NoM l (after_lock tags k s)
lock_cleans tags l k s = all_clean l (tags k s)

pub flush_keeps : (tags : Tags) (o : Option Line) (l : Line) (k s : ℕ) → NoM l (tags k s) → NoM l (flush_after tags o k s)
flush_keeps tags None l k s d = d
flush_keeps tags (Some n) l k s d = mapped (cleaned_at n) l (clean_makes n l) (tags k s) d
