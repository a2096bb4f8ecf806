-- What comes into one hart's cache of one line, and what leaves it.
use Rattle.std.proofs.Common.{◌≡◌, ◌+◌, ◌<◌, ◌≤◌, ℕ, zero, suc, Bool, true, false, List, [], ◌∷◌, ◌++◌, length, refl, sym, ap, ◌∙◌, subst, arith, ◌||◌, ◌&&◌, cond, eqb, leb, not, ◌⊎◌, inl, inr, Option, Some, None, map, take, is_some}
use Rattle.std.specs.List.{filter}
use Rattle.std.proofs.lemmas.Bool.{false≢true, true≢false, cond_both, eqb-true, eqb-false, eq-eqb, ne_eqb, and_right, cases_Bool, false_from_ne_true, leb-true, leb-false}
use Rattle.set_assoc.specs.Entries.{lookup}
use Rattle.conda_base.specs.declared.Line.{Line}
use Rattle.conda_base.specs.declared.Mesi.{Mesi}
use Rattle.conda_base.specs.declared.Mesi.TheVariants.{M, E, S}
use Rattle.line_memory.specs.Tags.{Tag, Tags, without_line, cleaned_at, Shape, set_number, held_state}
use Rattle.conda_base.specs.LineLists.{names, same_line}
use Rattle.offload_calls.specs.LineUses.{LineUse}
use Rattle.conda_base.proofs.LineListLemmas.{line_eq, same_line-eq}
use Rattle.try_runs.proofs.LineFacts.{AreDistinct}
use Rattle.std.proofs.Math.Seq.{take_all}
use Rattle.traffic_trace.specs.declared.note.Kind.{Kind}
use Rattle.traffic_trace.specs.declared.note.Kind.TheVariants as Kind_is
use Rattle.traffic_trace.specs.declared.note.Note.{Note}
use Rattle.line_memory.specs.Notes.{note_of, leave_notes, down_notes, others_notes, all_notes, evict_notes, last_notes, room_notes, fill_notes, load_notes, store_notes, flushes_notes, commit_notes}
use Rattle.chip_laws.specs.Balance.{notes_that, is_note}
use Rattle.chip_laws.proofs.OwnerFacts.{is_held, AreOnce, share_line, clean_line}
use Rattle.chip_laws.proofs.TagShapes.{TagsFit}
use Rattle.chip_laws.proofs.NoteCounts.{Skips, that-append, that-each, that-one, others-none, all-none, down-none, leave-none, room-none, flush-none}
use Rattle.line_memory.specs.Access.{put_front, shared_at, shared_line, loaded_state, list_beside_load, after_load, after_store, after_commit, cleaned_tag, after_lock}
use Rattle.chip_laws.specs.Uses.{after_use, flush_after, use_notes}
use Rattle.line_memory.specs.Owners.{is_owner}

abbrev pub one : Bool → ℕ
one b = cond b 1 0

-- a list without a line that it does not hold is itself
pub without_none : (n : Line) (ts : List Tag) → is_held n ts ≡ false → without_line n ts ≡ ts
without_none n [] h = refl
without_none n (t ∷ ts) h = go (same_line t.0 n) h (without_none n ts)
  where
    go : (b : Bool) → is_some (cond b (Some t.1) (lookup n ts)) ≡ false → (is_held n ts ≡ false → without_line n ts ≡ ts)
        → cond (not b) (t ∷ without_line n ts) (without_line n ts) ≡ t ∷ ts
    go true h ih = absurd (true≢false h)
    go false h ih = ap (λ us. t ∷ us) (ih h)

-- ---- tests of one kind, one hart and one line

not_who : (a b c : Bool) → b ≡ false → ((a && b) && c) ≡ false
not_who true b c h = ap (λ x. x && c) h
not_who false b c h = refl

own_note : (h : ℕ) (n l : Line) → (eqb h h && same_line n l) ≡ same_line n l
own_note h n l = ap (λ b. b && same_line n l) (eq-eqb h h refl)

single_value : (b : Bool) → cond b 1 0 + 0 ≡ one b
single_value true = refl
single_value false = refl

-- an eviction is one leave, of the entry's line
evict_count : (h : ℕ) (l : Line) (t : Tag) → notes_that (is_note Kind_is.Evict h l) (evict_notes h t.0 t.1) ≡ one (same_line t.0 l)
evict_count h l t = go t.1
  where
    count : cond (eqb h h && same_line t.0 l) 1 0 + 0 ≡ one (same_line t.0 l)
    count = ap (λ b. cond b 1 0 + 0) (own_note h t.0 l) ∙ single_value (same_line t.0 l)

    go : (m : Mesi) → notes_that (is_note Kind_is.Evict h l) (evict_notes h t.0 m) ≡ one (same_line t.0 l)
    go M = let c : cond (eqb h h && same_line t.0 l) 1 0 + 0 ≡ one (same_line t.0 l) = count in omega arith
    go E = count
    go S = count

-- the last entry leaves a list: a line that it held is in what is left or has left
pub last_leaves : (h : ℕ) (l : Line) (t : Tag) (ts : List Tag) → AreOnce (t ∷ ts)
    → one (is_held l (t ∷ ts)) ≡ notes_that (is_note Kind_is.Evict h l) (last_notes h (t ∷ ts)) + one (is_held l (take (length ts) (t ∷ ts)))
last_leaves h l t [] o = single (same_line t.0 l) ∙ ap (λ n. n + 0) (sym (evict_count h l t))
  where
    single : (b : Bool) → one (is_some (cond b (Some t.1) None)) ≡ one b + 0
    single true = refl
    single false = refl
last_leaves h l t (u ∷ ts) o = go (same_line t.0 l) refl (last_leaves h l u ts o.1)
  where
    go : (b : Bool) → same_line t.0 l ≡ b
        → one (is_held l (u ∷ ts)) ≡ notes_that (is_note Kind_is.Evict h l) (last_notes h (u ∷ ts)) + one (is_held l (take (length ts) (u ∷ ts)))
        → one (is_some (cond b (Some t.1) (lookup l (u ∷ ts))))
        ≡ notes_that (is_note Kind_is.Evict h l) (last_notes h (u ∷ ts)) + one (is_some (cond b (Some t.1) (lookup l (take (length ts) (u ∷ ts)))))
    go false e ih = ih
    go true e ih =
        let at : t.0 ≡ l = line_eq t.0 l e in
        let none : is_held l (u ∷ ts) ≡ false = ap (λ k. is_held k (u ∷ ts)) (sym at) ∙ o.0 in
        let zero_before : one (is_held l (u ∷ ts)) ≡ 0 = ap one none in
        let left : notes_that (is_note Kind_is.Evict h l) (last_notes h (u ∷ ts)) ≡ 0 = omega arith in
        ap (λ n. n + 1) (sym left)

-- hart h loads a line that it did not hold, into a set that was full or not
pub load_balance : (ways h : ℕ) (n l : Line) (m : Mesi) (ts : List Tag) → 0 < ways → length ts ≤ ways → AreOnce ts → is_held n ts ≡ false
    → one (same_line n l) + one (is_held l ts) ≡ notes_that (is_note Kind_is.Evict h l) (room_notes ways h ts) + one (is_held l (put_front ways n m ts))
load_balance ways h n l m ts some few once out =
    subst (λ us. one (same_line n l) + one (is_held l ts) ≡ notes_that (is_note Kind_is.Evict h l) (room_notes ways h ts) + one (is_held l (take ways ((n, m) ∷ us))))
    (sym (without_none n ts out)) (go (leb ways (length ts)) refl)
  where
    front : Tag
    front = (n, m)

    value : (us : List Tag) → is_held n us ≡ false → (b : Bool) → same_line n l ≡ b → one b + one (is_held l us) ≡ one (is_some (cond b (Some m) (lookup l us)))
    value us h true e = let at : n ≡ l = line_eq n l e in let none : one (is_held l us) ≡ 0 = ap (λ k. one (is_held k us)) (sym at) ∙ ap one h in ap (λ k. 1 + k) none
    value us h false e = omega arith

    full : (us : List Tag) → is_held n us ≡ false → AreOnce us → length us ≡ ways
        → one (same_line n l) + one (is_held l us) ≡ notes_that (is_note Kind_is.Evict h l) (last_notes h us) + one (is_held l (take ways (front ∷ us)))
    full [] o u e = absurd (omega arith)
    full (t ∷ us) o u e =
        subst (λ w. one (same_line n l) + one (is_held l (t ∷ us)) ≡ notes_that (is_note Kind_is.Evict h l) (last_notes h (t ∷ us)) + one (is_held l (take w (front ∷ t ∷ us)))) e
        (let gone : one (is_held l (t ∷ us)) ≡ notes_that (is_note Kind_is.Evict h l) (last_notes h (t ∷ us)) + one (is_held l (take (length us) (t ∷ us))) = last_leaves h l t us u in
        let kept : one (same_line n l) + one (is_held l (take (length us) (t ∷ us))) ≡ one (is_some (cond (same_line n l) (Some m) (lookup l (take (length us) (t ∷ us)))))
        = value (take (length us) (t ∷ us)) (take_out (length us) (t ∷ us) o) (same_line n l) refl in
        omega arith)
      where
        take_out : (k : ℕ) (xs : List Tag) → is_held n xs ≡ false → is_held n (take k xs) ≡ false
        take_out zero xs h = refl
        take_out (suc k) [] h = refl
        take_out (suc k) (x ∷ xs) h = step (same_line x.0 n) h (take_out k xs)
          where
            step : (b : Bool) → is_some (cond b (Some x.1) (lookup n xs)) ≡ false → (is_held n xs ≡ false → is_held n (take k xs) ≡ false)
                → is_some (cond b (Some x.1) (lookup n (take k xs))) ≡ false
            step true h ih = h
            step false h ih = ih h

    go : (b : Bool) → leb ways (length ts) ≡ b
        → one (same_line n l) + one (is_held l ts) ≡ notes_that (is_note Kind_is.Evict h l) (cond b (last_notes h ts) []) + one (is_held l (take ways (front ∷ ts)))
    go false e =
        let room : length ts < ways = leb-false ways (length ts) e in
        let all : take ways (front ∷ ts) ≡ front ∷ ts = take_all ways (front ∷ ts) room in
        subst (λ us. one (same_line n l) + one (is_held l ts) ≡ 0 + one (is_held l us)) (sym all)
        (let v : one (same_line n l) + one (is_held l ts) ≡ one (is_some (cond (same_line n l) (Some m) (lookup l ts))) = value ts out (same_line n l) refl in omega arith)
    go true e = let le : ways ≤ length ts = leb-true ways (length ts) e in full ts out once (omega arith)

-- ---- what an edit of a list does to one line

held-map : (f : Tag → Tag) → ((t : Tag) → t.0 ≡ (f t).0) → (l : Line) (ts : List Tag) → is_held l (map f ts) ≡ is_held l ts
held-map f same l [] = refl
held-map f same l (t ∷ ts) =
    subst (λ k. is_some (cond (same_line k l) (Some (f t).1) (lookup l (map f ts))) ≡ is_some (cond (same_line t.0 l) (Some t.1) (lookup l ts))) (same t)
    (go (same_line t.0 l) (held-map f same l ts))
  where
    go : (b : Bool) → is_held l (map f ts) ≡ is_held l ts → is_some (cond b (Some (f t).1) (lookup l (map f ts))) ≡ is_some (cond b (Some t.1) (lookup l ts))
    go true ih = refl
    go false ih = ih

held-filter : (q : Line → Bool) (l : Line) (ts : List Tag) → is_held l (filter (λ (t : Tag). q t.0) ts) ≡ (q l && is_held l ts)
held-filter q l [] = sym (and_right (q l) false refl)
held-filter q l (t ∷ ts) = go (same_line t.0 l) refl (q t.0) refl (held-filter q l ts)
  where
    rest : List Tag
    rest = filter (λ (u : Tag). q u.0) ts

    go : (b : Bool) → same_line t.0 l ≡ b → (d : Bool) → q t.0 ≡ d → is_held l rest ≡ (q l && is_held l ts)
        → is_held l (cond d (t ∷ rest) rest) ≡ (q l && is_some (cond b (Some t.1) (lookup l ts)))
    go true e true f ih =
        ap (λ b. is_some (cond b (Some t.1) (lookup l rest))) e
        ∙ sym (ap (λ b. b && true) (ap q (sym (line_eq t.0 l e)) ∙ f))
    go true e false f ih =
        let none : q l ≡ false = ap q (sym (line_eq t.0 l e)) ∙ f in
        ih ∙ ap (λ b. b && is_held l ts) none ∙ sym (ap (λ b. b && true) none)
    go false e true f ih = ap (λ b. is_some (cond b (Some t.1) (lookup l rest))) e ∙ ih
    go false e false f ih = ih

same_line-sym : (a b : Line) → same_line a b ≡ same_line b a
same_line-sym a b = go (cases_Bool (same_line a b))
  where
    go : (same_line a b ≡ true) ⊎ (same_line a b ≡ false) → same_line a b ≡ same_line b a
    go (inl e) = e ∙ sym (same_line-eq b a (sym (line_eq a b e)))
    go (inr e) = e ∙ sym (false_from_ne_true _ (λ f. false≢true (sym e ∙ same_line-eq a b (sym (line_eq b a f)))))

held-without : (n l : Line) (ts : List Tag) → is_held l (without_line n ts) ≡ (not (same_line n l) && is_held l ts)
held-without n l ts = held-filter (λ k. not (same_line k n)) l ts ∙ ap (λ b. not b && is_held l ts) (same_line-sym l n)

-- a held line in front leaves every line where it is
pub length-without : (n : Line) (ts : List Tag) → AreOnce ts → is_held n ts ≡ true → suc (length (without_line n ts)) ≡ length ts
length-without n [] o h = absurd (false≢true h)
length-without n (t ∷ ts) o h = go (same_line t.0 n) refl h (length-without n ts o.1)
  where
    go : (b : Bool) → same_line t.0 n ≡ b → is_some (cond b (Some t.1) (lookup n ts)) ≡ true → (is_held n ts ≡ true → suc (length (without_line n ts)) ≡ length ts)
        → suc (length (cond (not b) (t ∷ without_line n ts) (without_line n ts))) ≡ suc (length ts)
    go true e h ih = ap (λ us. suc (length us)) (without_none n ts (subst (λ k. is_held k ts ≡ false) (line_eq t.0 n e) o.0))
    go false e h ih = ap suc (ih h)

held-hit : (ways : ℕ) (n l : Line) (m : Mesi) (ts : List Tag) → length ts ≤ ways → AreOnce ts → is_held n ts ≡ true → is_held l (put_front ways n m ts) ≡ is_held l ts
held-hit ways n l m ts short once held =
    let all : put_front ways n m ts ≡ (n, m) ∷ without_line n ts =
    take_all ways ((n, m) ∷ without_line n ts) (le_of (length-without n ts once held) short) in
    ap (is_held l) all ∙ go (same_line n l) refl
  where
    le_of : {a b c : ℕ} → a ≡ b → b ≤ c → a ≤ c
    le_of e h = omega arith

    go : (b : Bool) → same_line n l ≡ b → is_some (cond b (Some m) (lookup l (without_line n ts))) ≡ is_held l ts
    go true e = sym (subst (λ k. is_held k ts ≡ true) (line_eq n l e) held)
    go false e = held-without n l ts ∙ ap (λ b. not b && is_held l ts) e

-- ---- balance of some notes

abbrev count : Kind → ℕ → Line → List Note → ℕ
count kind h l ns = notes_that (is_note kind h l) ns

-- hart h's fills of line l, and where it held it before, are its evictions and drops, and where it holds it after
pub record Bal (h : ℕ) (l : Line) (ns : List Note) (before after : Bool) : Type 0 where
  pub even : count Kind_is.Fill h l ns + one before ≡ count Kind_is.Evict h l ns + count Kind_is.Drop h l ns + one after

pub bal-then : (h : ℕ) (l : Line) (xs ys : List Note) (a b c : Bool) → Bal h l xs a b → Bal h l ys b c → Bal h l (xs ++ ys) a c
bal-then h l xs ys a b c x y =
    let first = x.even in
    let second = y.even in
    let fills = that-append (is_note Kind_is.Fill h l) xs ys in
    let evicts = that-append (is_note Kind_is.Evict h l) xs ys in
    let drops = that-append (is_note Kind_is.Drop h l) xs ys in
    record { even = omega arith }

pub bal-none : (h : ℕ) (l : Line) (ns : List Note) (b : Bool) → count Kind_is.Fill h l ns ≡ 0 → count Kind_is.Evict h l ns ≡ 0 → count Kind_is.Drop h l ns ≡ 0 → Bal h l ns b b
bal-none h l ns b f e d = record { even = omega arith }

pub bal-still : (h : ℕ) (l : Line) (ns : List Note) (b c : Bool) → b ≡ c → Bal h l ns b b → Bal h l ns b c
bal-still h l ns b c e x = subst (Bal h l ns b) e x

pub bal-empty : (h : ℕ) (l : Line) (b c : Bool) → b ≡ c → Bal h l [] b c
bal-empty h l b c e = bal-still h l [] b c e (bal-none h l [] b refl refl refl)

-- a kind of note that a test of another kind passes over
skip : (q : Note → Bool) (kind : Kind) → ((k : ℕ) (l : Line) → q (note_of kind k l) ≡ false) → Skips q kind
skip q kind s = record { skips = s }

pub flush-bal : (c : Shape) (tags : Tags) (lines : List Line) (h : ℕ) (l : Line) (b : Bool) → Bal h l (flushes_notes c tags lines) b b
flush-bal c tags lines h l b =
    bal-none h l (flushes_notes c tags lines) b
    (flush-none (is_note Kind_is.Fill h l) (skip _ Kind_is.Back (λ k n. refl)) c tags lines)
    (flush-none (is_note Kind_is.Evict h l) (skip _ Kind_is.Back (λ k n. refl)) c tags lines)
    (flush-none (is_note Kind_is.Drop h l) (skip _ Kind_is.Back (λ k n. refl)) c tags lines)

downs-bal : (c : Shape) (tags : Tags) (i : ℕ) (n : Line) (h : ℕ) (l : Line) (b : Bool) → Bal h l (others_notes down_notes c tags i n) b b
downs-bal c tags i n h l b =
    bal-none h l (others_notes down_notes c tags i n) b
    (others-none (is_note Kind_is.Fill h l) down_notes (down-none _ (skip _ Kind_is.Back (λ k n. refl)) (skip _ Kind_is.Down (λ k n. refl))) c tags i n)
    (others-none (is_note Kind_is.Evict h l) down_notes (down-none _ (skip _ Kind_is.Back (λ k n. refl)) (skip _ Kind_is.Down (λ k n. refl))) c tags i n)
    (others-none (is_note Kind_is.Drop h l) down_notes (down-none _ (skip _ Kind_is.Back (λ k n. refl)) (skip _ Kind_is.Down (λ k n. refl))) c tags i n)

-- ---- drops

drop-other : (h k : ℕ) (l n : Line) → eqb k h ≡ false → (x : Option Mesi) → count Kind_is.Drop h l (leave_notes n k x) ≡ 0
drop-other h k l n e x = go x
  where
    test : is_note Kind_is.Drop h l (note_of Kind_is.Drop k n) ≡ false
    test = not_who true (eqb k h) (same_line n l) e

    go : (x : Option Mesi) → count Kind_is.Drop h l (leave_notes n k x) ≡ 0
    go None = refl
    go (Some M) = ap (λ b. 0 + (cond b 1 0 + 0)) test
    go (Some E) = ap (λ b. cond b 1 0 + 0) test
    go (Some S) = ap (λ b. cond b 1 0 + 0) test

drop-own : (h : ℕ) (l n : Line) (x : Option Mesi) → count Kind_is.Drop h l (leave_notes n h x) ≡ one (is_some x && same_line n l)
drop-own h l n x = go x
  where
    value : cond (eqb h h && same_line n l) 1 0 + 0 ≡ one (same_line n l)
    value = ap (λ b. cond b 1 0 + 0) (own_note h n l) ∙ single_value (same_line n l)

    go : (x : Option Mesi) → count Kind_is.Drop h l (leave_notes n h x) ≡ one (is_some x && same_line n l)
    go None = refl
    go (Some M) = let v : cond (eqb h h && same_line n l) 1 0 + 0 ≡ one (same_line n l) = value in omega arith
    go (Some E) = value
    go (Some S) = value

leaves-bal : (h : ℕ) (l : Line) (ns : List Note) (e b : Bool) → count Kind_is.Fill h l ns ≡ 0 → count Kind_is.Evict h l ns ≡ 0
    → count Kind_is.Drop h l ns ≡ one (e && b) → Bal h l ns b (not e && b)
leaves-bal h l ns e b f v d = record { even = split e b d }
  where
    split : (e b : Bool) → count Kind_is.Drop h l ns ≡ one (e && b)
        → count Kind_is.Fill h l ns + one b ≡ count Kind_is.Evict h l ns + count Kind_is.Drop h l ns + one (not e && b)
    split true true d = omega (arith, f, v)
    split true false d = omega (arith, f, v)
    split false true d = omega (arith, f, v)
    split false false d = omega (arith, f, v)

-- what hart h has of line n, where that is line l
held_same : (c : Shape) (tags : Tags) (h : ℕ) (n l : Line) → (is_some (held_state c tags h n) && same_line n l) ≡ (same_line n l && is_held l (tags h (set_number c l)))
held_same c tags h n l = go (same_line n l) refl
  where
    go : (b : Bool) → same_line n l ≡ b → (is_some (held_state c tags h n) && b) ≡ (b && is_held l (tags h (set_number c l)))
    go true e = swap (is_some (held_state c tags h n)) ∙ ap (λ k. is_held k (tags h (set_number c k))) (line_eq n l e)
      where
        swap : (b : Bool) → (b && true) ≡ b
        swap true = refl
        swap false = refl
    go false e = and_right _ false refl

kinds_leave : (h : ℕ) (l : Line) (kind : Kind) → Skips (is_note kind h l) Kind_is.Back → Skips (is_note kind h l) Kind_is.Drop
    → (n : Line) (k : ℕ) (x : Option Mesi) → count kind h l (leave_notes n k x) ≡ 0
kinds_leave h l kind s t n k x = leave-none (is_note kind h l) s t n k x

-- another hart stores to line n
drops-bal : (c : Shape) (tags : Tags) (i : ℕ) (n : Line) (h : ℕ) (l : Line) → h < c.holders → eqb h i ≡ false
    → Bal h l (others_notes leave_notes c tags i n) (is_held l (tags h (set_number c l))) (not (same_line n l) && is_held l (tags h (set_number c l)))
drops-bal c tags i n h l u ne =
    leaves-bal h l (others_notes leave_notes c tags i n) (same_line n l) (is_held l (tags h (set_number c l)))
    (others-none (is_note Kind_is.Fill h l) leave_notes (kinds_leave h l Kind_is.Fill (skip _ Kind_is.Back (λ k n. refl)) (skip _ Kind_is.Drop (λ k n. refl))) c tags i n)
    (others-none (is_note Kind_is.Evict h l) leave_notes (kinds_leave h l Kind_is.Evict (skip _ Kind_is.Back (λ k n. refl)) (skip _ Kind_is.Drop (λ k n. refl))) c tags i n)
    (that-one (is_note Kind_is.Drop h l) c.holders _ h u
    (λ k other. cond_both (eqb k i) [] (leave_notes n k (held_state c tags k n)) (λ ns. count Kind_is.Drop h l ns ≡ 0) (λ _. refl)
    (λ _. drop-other h k l n (ne_eqb k h other) (held_state c tags k n)))
    ∙ ap (λ b. count Kind_is.Drop h l (cond b [] (leave_notes n h (held_state c tags h n)))) ne
    ∙ drop-own h l n (held_state c tags h n) ∙ ap one (held_same c tags h n l))

-- hart h itself stores to line n
own-drops-bal : (c : Shape) (tags : Tags) (n : Line) (h : ℕ) (l : Line) (b : Bool) → Bal h l (others_notes leave_notes c tags h n) b b
own-drops-bal c tags n h l b =
    bal-none h l (others_notes leave_notes c tags h n) b
    (others-none (is_note Kind_is.Fill h l) leave_notes (kinds_leave h l Kind_is.Fill (skip _ Kind_is.Back (λ k n. refl)) (skip _ Kind_is.Drop (λ k n. refl))) c tags h n)
    (others-none (is_note Kind_is.Evict h l) leave_notes (kinds_leave h l Kind_is.Evict (skip _ Kind_is.Back (λ k n. refl)) (skip _ Kind_is.Drop (λ k n. refl))) c tags h n)
    (that-each (is_note Kind_is.Drop h l) c.holders _
    (λ k u. cond_both (eqb k h) [] (leave_notes n k (held_state c tags k n)) (λ ns. count Kind_is.Drop h l ns ≡ 0) (λ _. refl)
    (λ e. drop-other h k l n e (held_state c tags k n))))

-- a commit of one line
all-drops-bal : (c : Shape) (tags : Tags) (n : Line) (h : ℕ) (l : Line) → h < c.holders
    → Bal h l (all_notes leave_notes c tags n) (is_held l (tags h (set_number c l))) (not (same_line n l) && is_held l (tags h (set_number c l)))
all-drops-bal c tags n h l u =
    leaves-bal h l (all_notes leave_notes c tags n) (same_line n l) (is_held l (tags h (set_number c l)))
    (all-none (is_note Kind_is.Fill h l) leave_notes (kinds_leave h l Kind_is.Fill (skip _ Kind_is.Back (λ k n. refl)) (skip _ Kind_is.Drop (λ k n. refl))) c tags n)
    (all-none (is_note Kind_is.Evict h l) leave_notes (kinds_leave h l Kind_is.Evict (skip _ Kind_is.Back (λ k n. refl)) (skip _ Kind_is.Drop (λ k n. refl))) c tags n)
    (that-one (is_note Kind_is.Drop h l) c.holders _ h u (λ k other. drop-other h k l n (ne_eqb k h other) (held_state c tags k n))
    ∙ drop-own h l n (held_state c tags h n) ∙ ap one (held_same c tags h n l))

-- ---- fills

last-other : (h i : ℕ) (l : Line) → eqb i h ≡ false → (ts : List Tag) → count Kind_is.Evict h l (last_notes i ts) ≡ 0
last-other h i l e [] = refl
last-other h i l e (t ∷ []) = go t.1
  where
    test : is_note Kind_is.Evict h l (note_of Kind_is.Evict i t.0) ≡ false
    test = not_who true (eqb i h) (same_line t.0 l) e

    go : (m : Mesi) → count Kind_is.Evict h l (evict_notes i t.0 m) ≡ 0
    go M = ap (λ b. 0 + (cond b 1 0 + 0)) test
    go E = ap (λ b. cond b 1 0 + 0) test
    go S = ap (λ b. cond b 1 0 + 0) test
last-other h i l e (t ∷ u ∷ ts) = last-other h i l e (u ∷ ts)

-- the notes of a fill, by those of its two parts
fill-counts : (kind : Kind) (c : Shape) (tags : Tags) (i : ℕ) (n : Line) (h : ℕ) (l : Line) (r f : ℕ)
    → count kind h l (room_notes c.ways i (tags i (set_number c n))) ≡ r → count kind h l (note_of Kind_is.Fill i n ∷ []) ≡ f
    → count kind h l (fill_notes c tags i n) ≡ r + f
fill-counts kind c tags i n h l r f room fill =
    let both = that-append (is_note kind h l) (room_notes c.ways i (tags i (set_number c n))) (note_of Kind_is.Fill i n ∷ []) in omega arith

drops-in-fill : (c : Shape) (tags : Tags) (i : ℕ) (n : Line) (h : ℕ) (l : Line) → count Kind_is.Drop h l (fill_notes c tags i n) ≡ 0
drops-in-fill c tags i n h l =
    fill-counts Kind_is.Drop c tags i n h l 0 0
    (room-none (is_note Kind_is.Drop h l) (skip _ Kind_is.Back (λ k n. refl)) (skip _ Kind_is.Evict (λ k n. refl)) c.ways i (tags i (set_number c n))) refl

-- another hart fills line n
fill-other-bal : (c : Shape) (tags : Tags) (i : ℕ) (n : Line) (h : ℕ) (l : Line) (b : Bool) → eqb i h ≡ false → Bal h l (fill_notes c tags i n) b b
fill-other-bal c tags i n h l b ne =
    bal-none h l (fill_notes c tags i n) b
    (fill-counts Kind_is.Fill c tags i n h l 0 0
    (room-none (is_note Kind_is.Fill h l) (skip _ Kind_is.Back (λ k n. refl)) (skip _ Kind_is.Evict (λ k n. refl)) c.ways i (tags i (set_number c n)))
    (ap (λ x. cond x 1 0 + 0) (not_who true (eqb i h) (same_line n l) ne)))
    (fill-counts Kind_is.Evict c tags i n h l 0 0
    (cond_both (leb c.ways (length (tags i (set_number c n)))) (last_notes i (tags i (set_number c n))) [] (λ ns. count Kind_is.Evict h l ns ≡ 0)
    (λ _. last-other h i l ne (tags i (set_number c n))) (λ _. refl)) refl)
    (drops-in-fill c tags i n h l)

-- hart h fills line n, which then stands in front
fill-own-bal : (c : Shape) (tags : Tags) (n : Line) (m : Mesi) (h : ℕ) (l : Line) → 0 < c.ways → TagsFit c tags → is_held n (tags h (set_number c n)) ≡ false
    → Bal h l (fill_notes c tags h n) (is_held l (tags h (set_number c l)))
    (is_held l (cond (eqb (set_number c l) (set_number c n)) (put_front c.ways n m (tags h (set_number c l))) (tags h (set_number c l))))
fill-own-bal c tags n m h l some fits out = record { even = go (eqb (set_number c l) (set_number c n)) refl }
  where
    set : ℕ
    set = set_number c n

    room : ℕ
    room = count Kind_is.Evict h l (room_notes c.ways h (tags h set))

    fills : count Kind_is.Fill h l (fill_notes c tags h n) ≡ 0 + one (same_line n l)
    fills =
        fill-counts Kind_is.Fill c tags h n h l 0 (one (same_line n l))
        (room-none (is_note Kind_is.Fill h l) (skip _ Kind_is.Back (λ k n. refl)) (skip _ Kind_is.Evict (λ k n. refl)) c.ways h (tags h set))
        (ap (λ b. cond b 1 0 + 0) (own_note h n l) ∙ single_value (same_line n l))

    evicts : count Kind_is.Evict h l (fill_notes c tags h n) ≡ room + 0
    evicts = fill-counts Kind_is.Evict c tags h n h l room 0 refl refl

    drops : count Kind_is.Drop h l (fill_notes c tags h n) ≡ 0
    drops = drops-in-fill c tags h n h l

    whole : one (same_line n l) + one (is_held l (tags h set)) ≡ room + one (is_held l (put_front c.ways n m (tags h set)))
    whole = load_balance c.ways h n l m (tags h set) some (fits.short h set) (fits.owners.once h set) out

    go : (b : Bool) → eqb (set_number c l) set ≡ b
        → count Kind_is.Fill h l (fill_notes c tags h n) + one (is_held l (tags h (set_number c l)))
        ≡ count Kind_is.Evict h l (fill_notes c tags h n) + count Kind_is.Drop h l (fill_notes c tags h n)
        + one (is_held l (cond b (put_front c.ways n m (tags h (set_number c l))) (tags h (set_number c l))))
    go true e =
        subst (λ s. count Kind_is.Fill h l (fill_notes c tags h n) + one (is_held l (tags h s))
        ≡ count Kind_is.Evict h l (fill_notes c tags h n) + count Kind_is.Drop h l (fill_notes c tags h n) + one (is_held l (put_front c.ways n m (tags h s))))
        (sym (eqb-true (set_number c l) set e))
        (omega (arith, fills, evicts, drops, whole))
    go false e =
        let apart : same_line n l ≡ false = false_from_ne_true _ (λ same. false≢true (sym e ∙ eq-eqb (set_number c l) set (ap (set_number c) (sym (line_eq n l same))))) in
        let none : is_held l (tags h set) ≡ false = fits.placed h set l (ne_eqb set (set_number c l) (λ same. eqb-false (set_number c l) set e (sym same))) in
        let no_fill : one (same_line n l) ≡ 0 = ap one apart in
        let no_held : one (is_held l (tags h set)) ≡ 0 = ap one none in
        omega (arith, fills, evicts, drops, whole)

-- ---- one access

-- a line that hart h holds comes in front of its list
own-hit : (c : Shape) (tags : Tags) (n : Line) (m : Mesi) (h : ℕ) (l : Line) → TagsFit c tags → is_held n (tags h (set_number c n)) ≡ true
    → is_held l (tags h (set_number c l)) ≡ is_held l (cond (eqb (set_number c l) (set_number c n)) (put_front c.ways n m (tags h (set_number c l))) (tags h (set_number c l)))
own-hit c tags n m h l fits held = go (eqb (set_number c l) (set_number c n)) refl
  where
    go : (b : Bool) → eqb (set_number c l) (set_number c n) ≡ b → is_held l (tags h (set_number c l)) ≡ is_held l (cond b (put_front c.ways n m (tags h (set_number c l))) (tags h (set_number c l)))
    go true e =
        subst (λ s. is_held l (tags h s) ≡ is_held l (put_front c.ways n m (tags h s))) (sym (eqb-true (set_number c l) (set_number c n) e))
        (sym (held-hit c.ways n l m (tags h (set_number c n)) (fits.short h (set_number c n)) (fits.owners.once h (set_number c n)) held))
    go false e = refl

-- a line that is taken from hart h's list
other-without : (c : Shape) (tags : Tags) (n : Line) (h : ℕ) (l : Line)
    → (not (same_line n l) && is_held l (tags h (set_number c l))) ≡ is_held l (cond (eqb (set_number c l) (set_number c n)) (without_line n (tags h (set_number c l))) (tags h (set_number c l)))
other-without c tags n h l = go (eqb (set_number c l) (set_number c n)) refl
  where
    go : (b : Bool) → eqb (set_number c l) (set_number c n) ≡ b
        → (not (same_line n l) && is_held l (tags h (set_number c l))) ≡ is_held l (cond b (without_line n (tags h (set_number c l))) (tags h (set_number c l)))
    go true e = sym (held-without n l (tags h (set_number c l)))
    go false e =
        ap (λ b. not b && is_held l (tags h (set_number c l)))
        (false_from_ne_true _ (λ same. false≢true (sym e ∙ eq-eqb (set_number c l) (set_number c n) (ap (set_number c) (sym (line_eq n l same))))))

other-shared : (c : Shape) (tags : Tags) (n : Line) (h : ℕ) (l : Line)
    → is_held l (tags h (set_number c l)) ≡ is_held l (cond (eqb (set_number c l) (set_number c n)) (shared_line n (tags h (set_number c l))) (tags h (set_number c l)))
other-shared c tags n h l =
    cond_both (eqb (set_number c l) (set_number c n)) (shared_line n (tags h (set_number c l))) (tags h (set_number c l)) (λ ts. is_held l (tags h (set_number c l)) ≡ is_held l ts)
    (λ _. sym (held-map (shared_at n) (share_line n) l (tags h (set_number c l)))) (λ _. refl)

cond-same : {A : Type 0} (b : Bool) (x : A) → x ≡ cond b x x
cond-same true x = refl
cond-same false x = refl

module _ (c : Shape) (tags : Tags) (n : Line) (h : ℕ) (l : Line) (some : 0 < c.ways) (fits : TagsFit c tags) where
  abbrev mine : List Tag
  mine = tags h (set_number c l)

  abbrev here : Bool
  here = eqb (set_number c l) (set_number c n)

  -- hart h loads or stores to line n
  own-load-bal : (x : Option Mesi) → held_state c tags h n ≡ x
      → Bal h l (load_notes c tags h n x) (is_held l mine) (is_held l (cond here (put_front c.ways n (loaded_state c tags h n x) mine) mine))
  own-load-bal (Some m) e = bal-empty h l _ _ (own-hit c tags n m h l fits (ap is_some e))
  own-load-bal None e =
      bal-then h l (others_notes down_notes c tags h n) (fill_notes c tags h n) _ _ _ (downs-bal c tags h n h l (is_held l mine))
      (fill-own-bal c tags n (loaded_state c tags h n None) h l some fits (ap is_some e))

  own-store-bal : (x : Option Mesi) → held_state c tags h n ≡ x
      → Bal h l (store_notes c tags h n x) (is_held l mine) (is_held l (cond here (put_front c.ways n M mine) mine))
  own-store-bal (Some M) e = bal-empty h l _ _ (own-hit c tags n M h l fits (ap is_some e))
  own-store-bal (Some E) e = bal-empty h l _ _ (own-hit c tags n M h l fits (ap is_some e))
  own-store-bal (Some S) e =
      bal-still h l (others_notes leave_notes c tags h n) _ _ (own-hit c tags n M h l fits (ap is_some e)) (own-drops-bal c tags n h l (is_held l mine))
  own-store-bal None e =
      bal-then h l (others_notes leave_notes c tags h n) (fill_notes c tags h n) _ _ _ (own-drops-bal c tags n h l (is_held l mine))
      (fill-own-bal c tags n M h l some fits (ap is_some e))

  -- hart i does
  other-load-bal : (i : ℕ) → eqb i h ≡ false → (x : Option Mesi)
      → Bal h l (load_notes c tags i n x) (is_held l mine) (is_held l (cond here (list_beside_load n x mine) mine))
  other-load-bal i ne (Some m) = bal-empty h l _ _ (ap (is_held l) (cond-same here mine))
  other-load-bal i ne None =
      bal-then h l (others_notes down_notes c tags i n) (fill_notes c tags i n) _ _ _ (downs-bal c tags i n h l (is_held l mine))
      (bal-still h l (fill_notes c tags i n) _ _ (other-shared c tags n h l) (fill-other-bal c tags i n h l (is_held l mine) ne))

  -- a line that hart i owns is in no other list
  not_here : (i : ℕ) → h < c.holders → eqb i h ≡ false → is_owner (held_state c tags i n) ≡ true
      → is_held l mine ≡ is_held l (cond here (without_line n mine) mine)
  not_here i u ne owned = go (same_line n l) refl ∙ other-without c tags n h l
    where
      go : (b : Bool) → same_line n l ≡ b → is_held l mine ≡ (not b && is_held l mine)
      go true e =
          let none : is_held n (tags h (set_number c n)) ≡ false = fits.owners.alone i h (set_number c n) n u (eqb-false i h ne) owned in
          subst (λ k. is_held k (tags h (set_number c k)) ≡ false) (line_eq n l e) none
      go false e = refl

  other-store-bal : (i : ℕ) → h < c.holders → eqb i h ≡ false → eqb h i ≡ false → (x : Option Mesi) → held_state c tags i n ≡ x
      → Bal h l (store_notes c tags i n x) (is_held l mine) (is_held l (cond here (without_line n mine) mine))
  other-store-bal i u ne en (Some M) e = bal-empty h l _ _ (not_here i u ne (ap is_owner e))
  other-store-bal i u ne en (Some E) e = bal-empty h l _ _ (not_here i u ne (ap is_owner e))
  other-store-bal i u ne en (Some S) e =
      subst (Bal h l (others_notes leave_notes c tags i n) (is_held l mine)) (other-without c tags n h l) (drops-bal c tags i n h l u en)
  other-store-bal i u ne en None e =
      bal-then h l (others_notes leave_notes c tags i n) (fill_notes c tags i n) _ _ _
      (subst (Bal h l (others_notes leave_notes c tags i n) (is_held l mine)) (other-without c tags n h l) (drops-bal c tags i n h l u en))
      (fill-other-bal c tags i n h l (is_held l (cond here (without_line n mine) mine)) ne)

  store-bal : (i : ℕ) → h < c.holders → Bal h l (store_notes c tags i n (held_state c tags i n)) (is_held l mine) (is_held l (after_store c tags i n h (set_number c l)))
  store-bal i u = go (eqb h i) refl
    where
      go : (b : Bool) → eqb h i ≡ b
          → Bal h l (store_notes c tags i n (held_state c tags i n)) (is_held l mine) (is_held l (cond here (cond b (put_front c.ways n M mine) (without_line n mine)) mine))
      go true e =
          subst (λ k. Bal h l (store_notes c tags k n (held_state c tags k n)) (is_held l mine) (is_held l (cond here (put_front c.ways n M mine) mine))) (eqb-true h i e)
          (own-store-bal (held_state c tags h n) refl)
      go false e = other-store-bal i u (ne_eqb i h (λ same. eqb-false h i e (sym same))) e (held_state c tags i n) refl

  load-bal : (i : ℕ) → Bal h l (load_notes c tags i n (held_state c tags i n)) (is_held l mine) (is_held l (after_load c tags i n h (set_number c l)))
  load-bal i = go (eqb h i) refl
    where
      go : (b : Bool) → eqb h i ≡ b
          → Bal h l (load_notes c tags i n (held_state c tags i n)) (is_held l mine)
          (is_held l (cond here (cond b (put_front c.ways n (loaded_state c tags i n (held_state c tags i n)) mine) (list_beside_load n (held_state c tags i n) mine)) mine))
      go true e =
          subst (λ k. Bal h l (load_notes c tags k n (held_state c tags k n)) (is_held l mine)
          (is_held l (cond here (put_front c.ways n (loaded_state c tags k n (held_state c tags k n)) mine) mine))) (eqb-true h i e)
          (own-load-bal (held_state c tags h n) refl)
      go false e = other-load-bal i (ne_eqb i h (λ same. eqb-false h i e (sym same))) (held_state c tags i n)

pub use-bal : (c : Shape) (tags : Tags) (i : ℕ) (u : Option LineUse) (h : ℕ) (l : Line) → 0 < c.ways → TagsFit c tags → h < c.holders
    → Bal h l (use_notes c tags i u) (is_held l (tags h (set_number c l))) (is_held l (after_use c tags i u h (set_number c l)))
use-bal c tags i None h l some fits below = bal-empty h l _ _ refl
use-bal c tags i (Some u) h l some fits below = go u.stores
  where
    go : (b : Bool) → Bal h l (cond b (store_notes c tags i u.line (held_state c tags i u.line)) (load_notes c tags i u.line (held_state c tags i u.line)))
        (is_held l (tags h (set_number c l))) (is_held l (cond b (after_store c tags i u.line) (after_load c tags i u.line) h (set_number c l)))
    go true = store-bal c tags u.line h l some fits i below
    go false = load-bal c tags u.line h l some fits i

-- ---- a commit

merge-bal : (h : ℕ) (l : Line) (j : ℕ) (n : Line) (b : Bool) → Bal h l (note_of Kind_is.Merge j n ∷ []) b b
merge-bal h l j n b = bal-none h l (note_of Kind_is.Merge j n ∷ []) b refl refl refl

commit-counts : (c : Shape) (tags : Tags) (j : ℕ) (lines : List Line) (h : ℕ) (l : Line) → h < c.holders → AreDistinct lines
    → Bal h l (commit_notes c tags j lines) (is_held l (tags h (set_number c l))) (not (names lines l) && is_held l (tags h (set_number c l)))
commit-counts c tags j [] h l u o = bal-empty h l _ _ refl
commit-counts c tags j (n ∷ lines) h l u o =
    go (same_line n l) refl (all-drops-bal c tags n h l u) (commit-counts c tags j lines h l u o.1)
  where
    held : Bool
    held = is_held l (tags h (set_number c l))

    -- the notes of later lines are about other lines, where this one is l
    go : (b : Bool) → same_line n l ≡ b → Bal h l (all_notes leave_notes c tags n) held (not (same_line n l) && held)
        → Bal h l (commit_notes c tags j lines) held (not (names lines l) && held)
        → Bal h l (all_notes leave_notes c tags n ++ (note_of Kind_is.Merge j n ∷ commit_notes c tags j lines)) held (not (b || names lines l) && held)
    go true e x y =
        let none : names lines l ≡ false = subst (λ k. names lines k ≡ false) (line_eq n l e) o.0 in
        let later : Bal h l (commit_notes c tags j lines) held held = subst (λ b. Bal h l (commit_notes c tags j lines) held (not b && held)) none y in
        let first : Bal h l (all_notes leave_notes c tags n) held false = subst (λ b. Bal h l (all_notes leave_notes c tags n) held (not b && held)) e x in
        bal-then h l (all_notes leave_notes c tags n) (note_of Kind_is.Merge j n ∷ commit_notes c tags j lines) held false false first
        (bal-then h l (note_of Kind_is.Merge j n ∷ []) (commit_notes c tags j lines) false false false (merge-bal h l j n false) (quiet h l (commit_notes c tags j lines) held later))
      where
        quiet : (h : ℕ) (l : Line) (ns : List Note) (b : Bool) → Bal h l ns b b → Bal h l ns false false
        quiet h l ns b x = let even = x.even in record { even = omega arith }
    go false e x y =
        let first : Bal h l (all_notes leave_notes c tags n) held held = subst (λ b. Bal h l (all_notes leave_notes c tags n) held (not b && held)) e x in
        bal-then h l (all_notes leave_notes c tags n) (note_of Kind_is.Merge j n ∷ commit_notes c tags j lines) held held (not (names lines l) && held) first
        (bal-then h l (note_of Kind_is.Merge j n ∷ []) (commit_notes c tags j lines) held held (not (names lines l) && held) (merge-bal h l j n held) y)

pub commit-bal : (c : Shape) (tags : Tags) (j : ℕ) (lines : List Line) (h : ℕ) (l : Line) → h < c.holders → AreDistinct lines
    → Bal h l (commit_notes c tags j lines) (is_held l (tags h (set_number c l))) (is_held l (after_commit tags lines h (set_number c l)))
commit-bal c tags j lines h l u o =
    bal-still-after (commit_notes c tags j lines) (sym (held-filter (λ k. not (names lines k)) l (tags h (set_number c l)))) (commit-counts c tags j lines h l u o)
  where
    bal-still-after : (ns : List Note) {a b c : Bool} → b ≡ c → Bal h l ns a b → Bal h l ns a c
    bal-still-after ns {a} e x = subst (Bal h l ns a) e x

-- a flush and a lock keep every line
pub flush-held : (tags : Tags) (x : Option Line) (k s : ℕ) (l : Line) → is_held l (tags k s) ≡ is_held l (flush_after tags x k s)
flush-held tags None k s l = refl
flush-held tags (Some n) k s l = sym (held-map (cleaned_at n) (clean_line n) l (tags k s))

pub lock-held : (tags : Tags) (k s : ℕ) (l : Line) → is_held l (tags k s) ≡ is_held l (after_lock tags k s)
lock-held tags k s l = sym (held-map cleaned_tag (λ t. refl) l (tags k s))
