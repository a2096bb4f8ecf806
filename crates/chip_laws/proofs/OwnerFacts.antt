-- The Single-owner law: no entry adds an owner beside a holder.
use Rattle.std.proofs.Common.{◌≡◌, ◌≢◌, ◌<◌, ℕ, zero, suc, Bool, true, false, List, [], ◌∷◌, refl, sym, ap, ◌∙◌, subst, ◌&&◌, cond, eqb, not, ◌⊎◌, inl, inr, Option, Some, None, map, take, is_some}
use Rattle.std.specs.List.{filter}
use Rattle.std.proofs.lemmas.Bool.{false≢true, true≢false, cond_both, eqb-true, ne_eqb, cases_Bool}
use Rattle.set_assoc.specs.Entries.{lookup}
use Rattle.conda_base.specs.declared.Line.{Line}
use Rattle.schedule_log.specs.declared.entry.Entry.{Entry}
use Rattle.schedule_log.specs.declared.entry.Entry.TheVariants.{Step, Waits, Idle, Held, Open, Lock, Spec, Commit, Back, Flush, Kern}
use Rattle.chip_laws.specs.Design.{Design, hart_shape}
use Rattle.chip_laws.specs.Rules.{World, flush_line}
use Rattle.chip_laws.specs.Worlds.{tags_after, start_world}
use Rattle.conda_base.specs.declared.Mesi.{Mesi}
use Rattle.conda_base.specs.declared.Mesi.TheVariants.{M, E, S}
use Rattle.line_memory.specs.Tags.{Tag, Tags, without_line, cleaned_state, cleaned_at, Shape, set_number, held_state}
use Rattle.conda_base.specs.LineLists.{same_line}
use Rattle.offload_calls.specs.LineUses.{LineUse}
use Rattle.conda_base.proofs.LineListLemmas.{line_eq, same_line-refl}
use Rattle.chip_laws.specs.Notes.{hart_use}
use Rattle.line_memory.specs.Access.{is_held_elsewhere, put_front, shared_at, shared_line, loaded_state, list_beside_load, changed_set, after_load, after_store, cleaned_tag, after_lock}
use Rattle.chip_laws.specs.Uses.{after_use, flush_after}
use Rattle.line_memory.specs.Owners.{is_owner}
use Rattle.line_memory.proofs.BelowLemmas.{none_at}

-- a list has the line, and has it in M or E
abbrev pub is_held : Line → List Tag → Bool
is_held l tags = is_some (lookup l tags)

abbrev pub is_owned : Line → List Tag → Bool
is_owned l tags = is_owner (lookup l tags)

-- the list names no line twice
abbrev pub AreOnce : List Tag → Type 0
AreOnce [] = Unit {0}
AreOnce (tag ∷ tags) = (is_held tag.0 tags ≡ false) × AreOnce tags

-- no list names a line twice, and a line that a holder has in M or E no other holder has in the same set
pub record HaveOwners (shape : Shape) (tags : Tags) : Type 0 where
  pub once : (k s : ℕ) → AreOnce (tags k s)
  pub alone : (k i s : ℕ) (l : Line) → i < shape.holders → k ≢ i
      → is_owned l (tags k s) ≡ true → is_held l (tags i s) ≡ false

-- an edit that adds no holder and no owner of a line
pub record Less (l : Line) (old new : List Tag) : Type 0 where
  pub held : is_held l old ≡ false → is_held l new ≡ false
  pub owned : is_owned l old ≡ false → is_owned l new ≡ false

pub less_self : (l : Line) (ts : List Tag) → Less l ts ts
less_self l ts = record { held = λ h. h; owned = λ h. h }

less_cons : (l : Line) (t u : Tag) (ts us : List Tag) → t.0 ≡ u.0 → (is_owner (Some t.1) ≡ false → is_owner (Some u.1) ≡ false) → Less l ts us → Less l (t ∷ ts) (u ∷ us)
less_cons l t u ts us same own h = record { held = held; owned = owned }
  where
    go_held : (b : Bool) → is_some (cond b (Some t.1) (lookup l ts)) ≡ false → is_some (cond b (Some u.1) (lookup l us)) ≡ false
    go_held true e = e
    go_held false e = h.held e

    go_owned : (b : Bool) → is_owner (cond b (Some t.1) (lookup l ts)) ≡ false → is_owner (cond b (Some u.1) (lookup l us)) ≡ false
    go_owned true e = own e
    go_owned false e = h.owned e

    held : is_held l (t ∷ ts) ≡ false → is_held l (u ∷ us) ≡ false
    held e = subst (λ k. is_some (cond (same_line k l) (Some u.1) (lookup l us)) ≡ false) same (go_held (same_line t.0 l) e)

    owned : is_owned l (t ∷ ts) ≡ false → is_owned l (u ∷ us) ≡ false
    owned e = subst (λ k. is_owner (cond (same_line k l) (Some u.1) (lookup l us)) ≡ false) same (go_owned (same_line t.0 l) e)

-- an edit of entries that keeps lines and makes no owner
pub less_map : (f : Tag → Tag) → ((t : Tag) → t.0 ≡ (f t).0) → ((t : Tag) → is_owner (Some t.1) ≡ false → is_owner (Some (f t).1) ≡ false)
    → (l : Line) (ts : List Tag) → Less l ts (map f ts)
less_map f g h l [] = less_self l []
less_map f g h l (t ∷ ts) = less_cons l t (f t) ts (map f ts) (g t) (h t) (less_map f g h l ts)

-- a line that a list is_held is once held by what is left of it only where it was: under AreOnce a filter makes no owner
pub filter_held : (q : Tag → Bool) (l : Line) (ts : List Tag) → is_held l ts ≡ false → is_held l (filter q ts) ≡ false
filter_held q l [] h = refl
filter_held q l (t ∷ ts) h =
    go (same_line t.0 l) refl h (filter_held q l ts)
  where
    go : (b : Bool) → same_line t.0 l ≡ b → is_some (cond b (Some t.1) (lookup l ts)) ≡ false → (is_held l ts ≡ false → is_held l (filter q ts) ≡ false)
        → is_held l (cond (q t) (t ∷ filter q ts) (filter q ts)) ≡ false
    go true e h ih = absurd (true≢false h)
    go false e h ih =
        cond_both (q t) (t ∷ filter q ts) (filter q ts) (λ us. is_held l us ≡ false)
        (λ _. subst (λ b. is_some (cond b (Some t.1) (lookup l (filter q ts))) ≡ false) (sym e) (ih h)) (λ _. ih h)

not_held_not_owned : (o : Option Mesi) → is_some o ≡ false → is_owner o ≡ false
not_held_not_owned None h = refl
not_held_not_owned (Some m) h = absurd (true≢false h)

filter_owned : (q : Tag → Bool) (l : Line) (ts : List Tag) → AreOnce ts → is_owned l ts ≡ false → is_owned l (filter q ts) ≡ false
filter_owned q l [] o h = refl
filter_owned q l (t ∷ ts) o h = go (same_line t.0 l) refl h (filter_owned q l ts o.1)
  where
    go : (b : Bool) → same_line t.0 l ≡ b → is_owner (cond b (Some t.1) (lookup l ts)) ≡ false → (is_owned l ts ≡ false → is_owned l (filter q ts) ≡ false)
        → is_owned l (cond (q t) (t ∷ filter q ts) (filter q ts)) ≡ false
    go true e h ih =
        let at : t.0 ≡ l = line_eq t.0 l e in
        let rest : is_held l ts ≡ false = ap (λ k. is_held k ts) (sym at) ∙ o.0 in
        cond_both (q t) (t ∷ filter q ts) (filter q ts) (λ us. is_owned l us ≡ false)
        (λ _. subst (λ b. is_owner (cond b (Some t.1) (lookup l (filter q ts))) ≡ false) (sym e) h)
        (λ _. not_held_not_owned (lookup l (filter q ts)) (filter_held q l ts rest))
    go false e h ih =
        cond_both (q t) (t ∷ filter q ts) (filter q ts) (λ us. is_owned l us ≡ false)
        (λ _. subst (λ b. is_owner (cond b (Some t.1) (lookup l (filter q ts))) ≡ false) (sym e) (ih h)) (λ _. ih h)

pub less_filter : (q : Tag → Bool) (l : Line) (ts : List Tag) → AreOnce ts → Less l ts (filter q ts)
less_filter q l ts o = record { held = filter_held q l ts; owned = filter_owned q l ts o }

pub less_take : (n : ℕ) (l : Line) (ts : List Tag) → Less l ts (take n ts)
less_take zero l ts = record { held = λ _. refl; owned = λ _. refl }
less_take (suc n) l [] = less_self l []
less_take (suc n) l (t ∷ ts) = less_cons l t t ts (take n ts) refl (λ h. h) (less_take n l ts)

less_then : (l : Line) (xs ys zs : List Tag) → Less l xs ys → Less l ys zs → Less l xs zs
less_then l xs ys zs a b = record { held = λ h. b.held (a.held h); owned = λ h. b.owned (a.owned h) }

-- ---- no line twice

once_filter : (q : Tag → Bool) (ts : List Tag) → AreOnce ts → AreOnce (filter q ts)
once_filter q [] o = tt
once_filter q (t ∷ ts) o =
    cond_both (q t) (t ∷ filter q ts) (filter q ts) AreOnce (λ _. (filter_held q t.0 ts o.0, once_filter q ts o.1)) (λ _. once_filter q ts o.1)

once_take : (n : ℕ) (ts : List Tag) → AreOnce ts → AreOnce (take n ts)
once_take zero ts o = tt
once_take (suc n) [] o = tt
once_take (suc n) (t ∷ ts) o = ((less_take n t.0 ts).held o.0, once_take n ts o.1)

once_map : (f : Tag → Tag) → ((t : Tag) → t.0 ≡ (f t).0) → ((t : Tag) → is_owner (Some t.1) ≡ false → is_owner (Some (f t).1) ≡ false)
    → (ts : List Tag) → AreOnce ts → AreOnce (map f ts)
once_map f g h [] o = tt
once_map f g h (t ∷ ts) o = (subst (λ k. is_held k (map f ts) ≡ false) (g t) ((less_map f g h t.0 ts).held o.0), once_map f g h ts o.1)

pub without_it : (n : Line) (ts : List Tag) → is_held n (without_line n ts) ≡ false
without_it n [] = refl
without_it n (t ∷ ts) = go (same_line t.0 n) refl (without_it n ts)
  where
    go : (b : Bool) → same_line t.0 n ≡ b → is_held n (without_line n ts) ≡ false → is_held n (cond (not b) (t ∷ without_line n ts) (without_line n ts)) ≡ false
    go true e ih = ih
    go false e ih = subst (λ b. is_some (cond b (Some t.1) (lookup n (without_line n ts))) ≡ false) (sym e) ih

once_front : (ways : ℕ) (n : Line) (m : Mesi) (ts : List Tag) → AreOnce ts → AreOnce (put_front ways n m ts)
once_front ways n m ts o =
    once_take ways ((n, m) ∷ without_line n ts) (without_it n ts, once_filter (λ (t : Tag). not (same_line t.0 n)) ts o)

-- of other lines, an entry in front adds nothing
pub front_others : (ways : ℕ) (n l : Line) (m : Mesi) (ts : List Tag) → same_line n l ≡ false → AreOnce ts → Less l ts (put_front ways n m ts)
front_others ways n l m ts ne o =
    less_then l ts ((n, m) ∷ without_line n ts) (put_front ways n m ts)
    (less_then l ts (without_line n ts) ((n, m) ∷ without_line n ts) (less_filter (λ (t : Tag). not (same_line t.0 n)) l ts o)
    (record {
      held = λ h. subst (λ b. is_some (cond b (Some m) (lookup l (without_line n ts))) ≡ false) (sym ne) h;
      owned = λ h. subst (λ b. is_owner (cond b (Some m) (lookup l (without_line n ts))) ≡ false) (sym ne) h;
    }))
    (less_take ways l ((n, m) ∷ without_line n ts))

-- of its own line, it is at most what it says
front_own : (ways : ℕ) (n : Line) (m : Mesi) (ts : List Tag) → is_owner (Some m) ≡ false → is_owned n (put_front ways n m ts) ≡ false
front_own ways n m ts h =
    (less_take ways n ((n, m) ∷ without_line n ts)).owned
    (subst (λ b. is_owner (cond b (Some m) (lookup n (without_line n ts))) ≡ false) (sym (same_line-refl n)) h)

pub share_line : (n : Line) (t : Tag) → t.0 ≡ (shared_at n t).0
share_line n t = cond_both (same_line t.0 n) (t.0, S) t (λ (u : Tag). t.0 ≡ u.0) (λ _. refl) (λ _. refl)

pub share_state : (n : Line) (t : Tag) → is_owner (Some t.1) ≡ false → is_owner (Some (shared_at n t).1) ≡ false
share_state n t h = cond_both (same_line t.0 n) (t.0, S) t (λ (u : Tag). is_owner (Some u.1) ≡ false) (λ _. refl) (λ _. h)

pub clean_owner : (m : Mesi) → is_owner (Some m) ≡ false → is_owner (Some (cleaned_state m)) ≡ false
clean_owner M h = absurd (true≢false h)
clean_owner E h = h
clean_owner S h = h

pub clean_line : (n : Line) (t : Tag) → t.0 ≡ (cleaned_at n t).0
clean_line n t = cond_both (same_line t.0 n) (t.0, cleaned_state t.1) t (λ (u : Tag). t.0 ≡ u.0) (λ _. refl) (λ _. refl)

pub clean_one_owner : (n : Line) (t : Tag) → is_owner (Some t.1) ≡ false → is_owner (Some (cleaned_at n t).1) ≡ false
clean_one_owner n t h =
    cond_both (same_line t.0 n) (t.0, cleaned_state t.1) t (λ (u : Tag). is_owner (Some u.1) ≡ false) (λ _. clean_owner t.1 h) (λ _. h)

-- a shared list owns the line no more
shared_own : (n : Line) (ts : List Tag) → is_owned n (shared_line n ts) ≡ false
shared_own n [] = refl
shared_own n (t ∷ ts) = go (same_line t.0 n) refl (shared_own n ts)
  where
    go : (b : Bool) → same_line t.0 n ≡ b → is_owned n (shared_line n ts) ≡ false → is_owned n (cond b (t.0, S) t ∷ shared_line n ts) ≡ false
    go true e ih = cond_both (same_line t.0 n) (Some S) (lookup n (shared_line n ts)) (λ o. is_owner o ≡ false) (λ _. refl) (λ _. ih)
    go false e ih = subst (λ b. is_owner (cond b (Some t.1) (lookup n (shared_line n ts))) ≡ false) (sym e) ih

-- ---- edits of all lists

-- where each list has less of a line, it still has at most one owner, alone
alone_less : (l : Line) (xs ys us vs : List Tag) → Less l xs us → Less l ys vs → (is_owned l xs ≡ true → is_held l ys ≡ false) → is_owned l us ≡ true → is_held l vs ≡ false
alone_less l xs ys us vs a b h own = go (cases_Bool (is_owned l xs))
  where
    go : (is_owned l xs ≡ true) ⊎ (is_owned l xs ≡ false) → is_held l vs ≡ false
    go (inl e) = b.held (h e)
    go (inr e) = absurd (false≢true (sym (a.owned e) ∙ own))

-- the other holders have no copy
none_elsewhere : (c : Shape) (tags : Tags) (h : ℕ) (l : Line) (k : ℕ) → is_held_elsewhere c tags h l ≡ false → k < c.holders → k ≢ h
    → is_held l (tags k (set_number c l)) ≡ false
none_elsewhere c tags h l k e below other =
    subst (λ b. (not b && is_held l (tags k (set_number c l))) ≡ false) (ne_eqb k h other)
    (none_at c.holders k (λ i. not (eqb i h) && is_held l (tags i (set_number c l))) e below)

-- an edit of one set's lists: each list once, and alone in that set
one_set : (c : Shape) (tags : Tags) (h set : ℕ) (own other : List Tag → List Tag) → HaveOwners c tags
    → (AreOnce (own (tags h set))) → ((k : ℕ) → AreOnce (other (tags k set)))
    → ((i : ℕ) (l : Line) → i < c.holders → h ≢ i → is_owned l (own (tags h set)) ≡ true → is_held l (other (tags i set)) ≡ false)
    → ((k : ℕ) (l : Line) → h < c.holders → k ≢ h → is_owned l (other (tags k set)) ≡ true → is_held l (own (tags h set)) ≡ false)
    → ((k i : ℕ) (l : Line) → i < c.holders → k ≢ i → is_owned l (other (tags k set)) ≡ true → is_held l (other (tags i set)) ≡ false)
    → HaveOwners c (changed_set h set own other tags)
one_set c tags h set own other o once_own once_other mine theirs both = record { once = once; alone = alone }
  where
    once : (k s : ℕ) → AreOnce (changed_set h set own other tags k s)
    once k s =
        cond_both (eqb s set) _ (tags k s) AreOnce
        (λ e. subst (λ i. AreOnce (cond (eqb k h) (own (tags k i)) (other (tags k i)))) (sym (eqb-true s set e))
        (cond_both (eqb k h) (own (tags k set)) (other (tags k set)) AreOnce
        (λ f. subst (λ i. AreOnce (own (tags i set))) (sym (eqb-true k h f)) once_own) (λ _. once_other k)))
        (λ _. o.once k s)

    here : (k i : ℕ) (l : Line) → i < c.holders → k ≢ i → (b d : Bool) → eqb k h ≡ b → eqb i h ≡ d
        → is_owned l (cond b (own (tags k set)) (other (tags k set))) ≡ true → is_held l (cond d (own (tags i set)) (other (tags i set))) ≡ false
    here k i l u ne true true x y = absurd (ne (eqb-true k h x ∙ sym (eqb-true i h y)))
    here k i l u ne true false x y = λ owned. mine i l u (λ e. ne (eqb-true k h x ∙ e)) (subst (λ m. is_owned l (own (tags m set)) ≡ true) (eqb-true k h x) owned)
    here k i l u ne false true x y = λ owned. subst (λ m. is_held l (own (tags m set)) ≡ false) (sym (eqb-true i h y)) (theirs k l (subst (λ m. m < c.holders) (eqb-true i h y) u) (λ e. ne (e ∙ sym (eqb-true i h y))) owned)
    here k i l u ne false false x y = both k i l u ne

    alone : (k i s : ℕ) (l : Line) → i < c.holders → k ≢ i → is_owned l (changed_set h set own other tags k s) ≡ true → is_held l (changed_set h set own other tags i s) ≡ false
    alone k i s l u ne = go (eqb s set) refl
      where
        go : (b : Bool) → eqb s set ≡ b → is_owned l (cond b (cond (eqb k h) (own (tags k s)) (other (tags k s))) (tags k s)) ≡ true
            → is_held l (cond b (cond (eqb i h) (own (tags i s)) (other (tags i s))) (tags i s)) ≡ false
        go false e = o.alone k i s l u ne
        go true e =
            subst (λ v. is_owned l (cond (eqb k h) (own (tags k v)) (other (tags k v))) ≡ true → is_held l (cond (eqb i h) (own (tags i v)) (other (tags i v))) ≡ false) (sym (eqb-true s set e))
            (here k i l u ne (eqb k h) (eqb i h) refl refl)

-- where the line is the one accessed, or another one
by_line : (n l : Line) (P : Line → Type 0) → (same_line n l ≡ false → P l) → P n → P l
by_line n l P other mine = go (cases_Bool (same_line n l))
  where
    go : (same_line n l ≡ true) ⊎ (same_line n l ≡ false) → P l
    go (inl e) = subst P (line_eq n l e) mine
    go (inr e) = other e

pub without_less : (n l : Line) (ts : List Tag) → AreOnce ts → Less l ts (without_line n ts)
without_less n l ts o = less_filter (λ (t : Tag). not (same_line t.0 n)) l ts o

store_owners : (c : Shape) (tags : Tags) (h : ℕ) (n : Line) → HaveOwners c tags → HaveOwners c (after_store c tags h n)
store_owners c tags h n o =
    one_set c tags h set (put_front c.ways n M) (without_line n) o
    (once_front c.ways n M (tags h set) (o.once h set)) (λ k. once_filter (λ (t : Tag). not (same_line t.0 n)) (tags k set) (o.once k set))
    (λ i l u ne. by_line n l (λ m. is_owned m (put_front c.ways n M (tags h set)) ≡ true → is_held m (without_line n (tags i set)) ≡ false)
    (λ apart. alone_less l (tags h set) (tags i set) _ _ (front_others c.ways n l M (tags h set) apart (o.once h set)) (without_less n l (tags i set) (o.once i set)) (o.alone h i set l u ne))
    (λ _. without_it n (tags i set)))
    (λ k l below ne. by_line n l (λ m. is_owned m (without_line n (tags k set)) ≡ true → is_held m (put_front c.ways n M (tags h set)) ≡ false)
    (λ apart. alone_less l (tags k set) (tags h set) _ _ (without_less n l (tags k set) (o.once k set)) (front_others c.ways n l M (tags h set) apart (o.once h set)) (o.alone k h set l below ne))
    (λ owned. absurd (false≢true (sym (not_held_not_owned (lookup n (without_line n (tags k set))) (without_it n (tags k set))) ∙ owned))))
    (λ k i l u ne. alone_less l (tags k set) (tags i set) _ _ (without_less n l (tags k set) (o.once k set)) (without_less n l (tags i set) (o.once i set)) (o.alone k i set l u ne))
  where
    set : ℕ
    set = set_number c n

-- a held line in front is as it was
front_same : (ways : ℕ) (n : Line) (m : Mesi) (ts : List Tag) → lookup n ts ≡ Some m → Less n ts (put_front ways n m ts)
front_same ways n m ts e = record {
  held = λ h. absurd (true≢false (sym (ap is_some e) ∙ h));
  owned = λ h. front_own ways n m ts (sym (ap is_owner e) ∙ h);
}

pub beside_less : (n l : Line) (x : Option Mesi) (ts : List Tag) → Less l ts (list_beside_load n x ts)
beside_less n l (Some m) ts = less_self l ts
beside_less n l None ts = less_map (shared_at n) (share_line n) (share_state n) l ts

beside_once : (n : Line) (x : Option Mesi) (ts : List Tag) → AreOnce ts → AreOnce (list_beside_load n x ts)
beside_once n (Some m) ts o = o
beside_once n None ts o = once_map (shared_at n) (share_line n) (share_state n) ts o

load_owners : (c : Shape) (tags : Tags) (h : ℕ) (n : Line) → HaveOwners c tags → HaveOwners c (after_load c tags h n)
load_owners c tags h n o = go (held_state c tags h n) refl
  where
    set : ℕ
    set = set_number c n

    once_h : AreOnce (tags h set)
    once_h = o.once h set

    -- a missed line: E in front where no other holds it
    new_own : (i : ℕ) → i < c.holders → h ≢ i → (b : Bool) → is_held_elsewhere c tags h n ≡ b
        → is_owned n (put_front c.ways n (cond b S E) (tags h set)) ≡ true → is_held n (shared_line n (tags i set)) ≡ false
    new_own i u ne true e owned = absurd (false≢true (sym (front_own c.ways n S (tags h set) refl) ∙ owned))
    new_own i u ne false e owned = (beside_less n n None (tags i set)).held (none_elsewhere c tags h n i e u (λ same. ne (sym same)))

    mine : (x : Option Mesi) → held_state c tags h n ≡ x → (i : ℕ) → i < c.holders → h ≢ i
        → is_owned n (put_front c.ways n (loaded_state c tags h n x) (tags h set)) ≡ true → is_held n (list_beside_load n x (tags i set)) ≡ false
    mine (Some m) e i u ne = alone_less n (tags h set) (tags i set) _ _ (front_same c.ways n m (tags h set) e) (less_self n (tags i set)) (o.alone h i set n u ne)
    mine None e i u ne = new_own i u ne (is_held_elsewhere c tags h n) refl

    theirs : (x : Option Mesi) → held_state c tags h n ≡ x → (k : ℕ) → h < c.holders → k ≢ h
        → is_owned n (list_beside_load n x (tags k set)) ≡ true → is_held n (put_front c.ways n (loaded_state c tags h n x) (tags h set)) ≡ false
    theirs (Some m) e k below ne = alone_less n (tags k set) (tags h set) _ _ (less_self n (tags k set)) (front_same c.ways n m (tags h set) e) (o.alone k h set n below ne)
    theirs None e k below ne = λ owned. absurd (false≢true (sym (shared_own n (tags k set)) ∙ owned))

    go : (x : Option Mesi) → held_state c tags h n ≡ x
        → HaveOwners c (changed_set h set (put_front c.ways n (loaded_state c tags h n x)) (list_beside_load n x) tags)
    go x e =
        one_set c tags h set (put_front c.ways n (loaded_state c tags h n x)) (list_beside_load n x) o
        (once_front c.ways n (loaded_state c tags h n x) (tags h set) once_h) (λ k. beside_once n x (tags k set) (o.once k set))
        (λ i l u ne. by_line n l (λ m. is_owned m (put_front c.ways n (loaded_state c tags h n x) (tags h set)) ≡ true → is_held m (list_beside_load n x (tags i set)) ≡ false)
        (λ apart. alone_less l (tags h set) (tags i set) _ _ (front_others c.ways n l (loaded_state c tags h n x) (tags h set) apart once_h) (beside_less n l x (tags i set)) (o.alone h i set l u ne))
        (mine x e i u ne))
        (λ k l below ne. by_line n l (λ m. is_owned m (list_beside_load n x (tags k set)) ≡ true → is_held m (put_front c.ways n (loaded_state c tags h n x) (tags h set)) ≡ false)
        (λ apart. alone_less l (tags k set) (tags h set) _ _ (beside_less n l x (tags k set)) (front_others c.ways n l (loaded_state c tags h n x) (tags h set) apart once_h) (o.alone k h set l below ne))
        (theirs x e k below ne))
        (λ k i l u ne. alone_less l (tags k set) (tags i set) _ _ (beside_less n l x (tags k set)) (beside_less n l x (tags i set)) (o.alone k i set l u ne))

each_less : (c : Shape) (tags new : Tags) → ((k s : ℕ) (l : Line) → Less l (tags k s) (new k s)) → ((k s : ℕ) → AreOnce (new k s)) → HaveOwners c tags → HaveOwners c new
each_less c tags new less once o =
    record { once = once; alone = λ k i s l u ne. alone_less l (tags k s) (tags i s) (new k s) (new i s) (less k s l) (less i s l) (o.alone k i s l u ne) }

flush_owners : (c : Shape) (tags : Tags) (x : Option Line) → HaveOwners c tags → HaveOwners c (flush_after tags x)
flush_owners c tags None o = o
flush_owners c tags (Some n) o =
    each_less c tags (flush_after tags (Some n)) (λ k s l. less_map (cleaned_at n) (clean_line n) (clean_one_owner n) l (tags k s))
    (λ k s. once_map (cleaned_at n) (clean_line n) (clean_one_owner n) (tags k s) (o.once k s)) o

use_owners : (c : Shape) (tags : Tags) (h : ℕ) (u : Option LineUse) → HaveOwners c tags → HaveOwners c (after_use c tags h u)
use_owners c tags h None o = o
use_owners c tags h (Some u) o =
    cond_both u.stores (after_store c tags h u.line) (after_load c tags h u.line) (HaveOwners c) (λ _. store_owners c tags h u.line o) (λ _. load_owners c tags h u.line o)

pub took_owners : (p : Design) (w : World) (e : Entry) → HaveOwners (hart_shape p) w.tags → HaveOwners (hart_shape p) (tags_after p w e)
took_owners p w (Step h) o = use_owners (hart_shape p) w.tags h (hart_use p w h) o
took_owners p w (Commit j n c) o =
    each_less (hart_shape p) w.tags (tags_after p w (Commit j n c)) (λ k s l. less_filter _ l (w.tags k s) (o.once k s)) (λ k s. once_filter _ (w.tags k s) (o.once k s)) o
took_owners p w (Lock j) o =
    each_less (hart_shape p) w.tags (after_lock w.tags) (λ k s l. less_map cleaned_tag (λ t. refl) (λ t. clean_owner t.1) l (w.tags k s))
    (λ k s. once_map cleaned_tag (λ t. refl) (λ t. clean_owner t.1) (w.tags k s) (o.once k s)) o
took_owners p w (Flush j) o = flush_owners (hart_shape p) w.tags (flush_line p w j) o
took_owners p w (Waits h) o = o
took_owners p w (Idle a) o = o
took_owners p w (Held a) o = o
took_owners p w (Open j) o = o
took_owners p w (Spec j) o = o
took_owners p w (Back j n c) o = o
took_owners p w (Kern j) o = o

pub start_owners : (p : Design) → HaveOwners (hart_shape p) (start_world p).tags
start_owners p = record { once = λ k s. tt; alone = λ k i s l u ne h. refl }
