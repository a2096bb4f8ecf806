-- All fills are all evictions, all drops and all tags.
use Rattle.std.proofs.Common.{◌≡◌, ◌+◌, ◌<◌, ◌≤◌, ℕ, zero, suc, Bool, true, false, List, [], ◌∷◌, ◌++◌, length, refl, sym, ap, ◌∙◌, subst, arith, ◌||◌, cond, eqb, leb, not, ◌⊎◌, inl, inr, Option, Some, None, take, is_some}
use Rattle.std.specs.List.{AllByRecursion, filter}
use Rattle.std.proofs.lemmas.Bool.{false≢true, true≢false, cond_both, eqb-true, eqb-false, eq-eqb, ne_eqb, cases_eq, false_from_ne_true, leb-true, leb-false}
use Rattle.set_assoc.specs.Entries.{lookup}
use Rattle.conda_base.specs.declared.Line.{Line}
use Rattle.conda_base.specs.declared.actor.Actor.{Actor}
use Rattle.conda_base.specs.declared.actor.Actor.TheVariants as The
use Rattle.schedule_log.specs.declared.entry.Entry.{Entry}
use Rattle.schedule_log.specs.declared.entry.Entry.TheVariants.{Step, Waits, Idle, Held, Open, Lock, Spec, Commit, Back, Flush, Kern}
use Rattle.offload_calls.specs.HartAct.{hart_runs}
use Rattle.offload_calls.specs.CoreActs.{core_runs}
use Rattle.chip_laws.specs.Design.{Design, IsDesign, IsActorOf, hart_shape}
use Rattle.chip_laws.specs.Rules.{World, Opening, opening_end, writes_of, is_conflict, is_locked_below, dirty_of, flush_line, is_flushing, ruling, core_entry, next}
use Rattle.chip_laws.specs.Worlds.{tags_after, happens, start_world, world_from, world}
use Rattle.conda_base.specs.declared.Mesi.{Mesi}
use Rattle.conda_base.specs.declared.Mesi.TheVariants.{M, E, S}
use Rattle.line_memory.specs.Tags.{Tag, Tags, without_line, cleaned_at, Shape, set_number, held_state, each_below}
use Rattle.conda_base.specs.LineLists.{names, same_line, line_list}
use Rattle.offload_calls.specs.LineUses.{LineUse}
use Rattle.conda_base.proofs.LineListLemmas.{line_eq, same_line-eq}
use Rattle.try_runs.proofs.LineFacts.{AreDistinct}
use Rattle.try_runs.specs.Fills.{corefill_notes}
use Rattle.chip_laws.specs.Notes.{hart_use, filled_of, notes_of}
use Rattle.std.proofs.Math.Seq.{take_all}
use Rattle.std.proofs.Math.Nat.{min-eq_left, mod-lt}
use Rattle.std.proofs.lemmas.List.{length-append, length-map, length-take}
use Rattle.traffic_trace.specs.declared.note.Kind.{Kind}
use Rattle.traffic_trace.specs.declared.note.Kind.TheVariants as Kind_is
use Rattle.traffic_trace.specs.declared.note.Note.{Note}
use Rattle.line_memory.specs.Notes.{note_of, leave_notes, down_notes, others_notes, all_notes, evict_notes, last_notes, room_notes, fill_notes, load_notes, store_notes, flushes_notes, commit_notes}
use Rattle.chip_laws.specs.Balance.{notes_that, is_kind, all_tags, all_writes, AlwaysBalanced}
use Rattle.chip_laws.proofs.DesignFacts.{HasCaches, caches-fit}
use Rattle.chip_laws.proofs.WorldFacts.{waits_in}
use Rattle.chip_laws.proofs.LockFacts.{start-sound}
use Rattle.chip_laws.proofs.TagShapes.{TagsFit, took-fits, start-fits}
use Rattle.chip_laws.proofs.NoteCounts.{Skips, that-append, others-none, all-none, down-none, leave-none, room-none, flush-none}
use Rattle.chip_laws.proofs.LineBalance.{one, without_none, length-without, bal-empty}
use Rattle.chip_laws.proofs.BalanceFacts.{writes-distinct, world-bal, world-corefills, world-merges, none_open, zero_plus as plus_none}
use Rattle.line_memory.specs.Access.{put_front, shared_at, shared_line, loaded_state, list_beside_load, changed_set, after_load, after_store, after_commit, cleaned_tag, after_lock}
use Rattle.chip_laws.specs.Uses.{after_use, flush_after, use_notes}
use Rattle.chip_laws.proofs.OwnerFacts.{is_held, AreOnce}
use Rattle.line_memory.specs.Owners.{is_owner}

-- ---- sums

sum_below : ℕ → (ℕ → ℕ) → ℕ
sum_below zero x = 0
sum_below (suc n) x = sum_below n x + x n

sum-none : (n : ℕ) (x : ℕ → ℕ) → ((k : ℕ) → k < n → x k ≡ 0) → sum_below n x ≡ 0
unfolding sum_below
sum-none zero x h = refl
sum-none (suc n) x h = let before = sum-none n x (λ k u. h k (omega arith)) in let here = h n (omega arith) in omega arith

sum-one : (n i a : ℕ) → i < n → sum_below n (λ k. cond (eqb k i) a 0) ≡ a
unfolding sum_below
sum-one zero i a u = absurd (omega arith)
sum-one (suc n) i a u = go (cases_eq i n) (λ v. sum-one n i a v)
  where
    apart : (k : ℕ) → k < n → i ≡ n → cond (eqb k i) a 0 ≡ 0
    apart k v e = ap (λ b. cond b a 0) (ne_eqb k i (λ s. less k v (s ∙ e)))
      where
        less : (k : ℕ) → k < n → k ≡ n → ⊥
        less k v s = absurd (omega arith)

    go : (i ≡ n) ⊎ (i ≡ n → ⊥) → (i < n → sum_below n (λ k. cond (eqb k i) a 0) ≡ a) → sum_below n (λ k. cond (eqb k i) a 0) + cond (eqb n i) a 0 ≡ a
    go (inl e) later =
        let before : sum_below n (λ k. cond (eqb k i) a 0) ≡ 0 = sum-none n (λ k. cond (eqb k i) a 0) (λ k v. apart k v e) in
        let here : cond (eqb n i) a 0 ≡ a = ap (λ b. cond b a 0) (eq-eqb n i (sym e)) in omega arith
    go (inr ne) later =
        let before : sum_below n (λ k. cond (eqb k i) a 0) ≡ a = later (omega arith) in
        let here : cond (eqb n i) a 0 ≡ 0 = ap (λ b. cond b a 0) (ne_eqb n i (λ s. ne (sym s))) in omega arith

sum-both : (n : ℕ) (x y : ℕ → ℕ) → sum_below n (λ k. x k + y k) ≡ sum_below n x + sum_below n y
unfolding sum_below
sum-both zero x y = refl
sum-both (suc n) x y = let before = sum-both n x y in omega arith

-- notes of lists one after another
that-sum : (q : Note → Bool) (n : ℕ) (f : ℕ → List Note) → notes_that q (each_below n f) ≡ sum_below n (λ k. notes_that q (f k))
unfolding sum_below
that-sum q zero f = refl
that-sum q (suc n) f = let before = that-sum q n f in let both = that-append q (each_below n f) (f n) in omega arith

-- lengths of lists one after another
length-sum : (n : ℕ) (f g : ℕ → List Tag) (x y : ℕ → ℕ) → ((k : ℕ) → k < n → x k + length (f k) ≡ y k + length (g k))
    → sum_below n x + length (each_below n f) ≡ sum_below n y + length (each_below n g)
unfolding sum_below
length-sum zero f g x y h = refl
length-sum (suc n) f g x y h =
    let before = length-sum n f g x y (λ k u. h k (omega arith)) in
    let here = h n (omega arith) in
    let one_side = length-append (each_below n f) (f n) in
    let other_side = length-append (each_below n g) (g n) in
    omega arith

-- where only one list changes its length
length-one : (n j a b : ℕ) (f g : ℕ → List Tag) → j < n → ((k : ℕ) → eqb k j ≡ false → length (f k) ≡ length (g k)) → a + length (f j) ≡ b + length (g j)
    → a + length (each_below n f) ≡ b + length (each_below n g)
length-one n j a b f g u same here =
    let sums = length-sum n f g (λ k. cond (eqb k j) a 0) (λ k. cond (eqb k j) b 0) (λ k v. each k) in
    let left = sum-one n j a u in
    let right = sum-one n j b u in
    omega arith
  where
    each : (k : ℕ) → cond (eqb k j) a 0 + length (f k) ≡ cond (eqb k j) b 0 + length (g k)
    each k = go (eqb k j) refl
      where
        go : (t : Bool) → eqb k j ≡ t → cond t a 0 + length (f k) ≡ cond t b 0 + length (g k)
        go true e = subst (λ i. a + length (f i) ≡ b + length (g i)) (sym (eqb-true k j e)) here
        go false e = let same_here = same k e in omega arith

-- ---- one list

-- a line that is taken from a list
without-count : (n : Line) (ts : List Tag) → AreOnce ts → length ts ≡ one (is_held n ts) + length (without_line n ts)
without-count n ts o = go (is_held n ts) refl
  where
    go : (b : Bool) → is_held n ts ≡ b → length ts ≡ one b + length (without_line n ts)
    go true e = let less = length-without n ts o e in omega arith
    go false e = ap length (sym (without_none n ts e)) ∙ zero_plus (length (without_line n ts))
      where
        zero_plus : (k : ℕ) → k ≡ 0 + k
        zero_plus k = omega arith

hit-count : (ways : ℕ) (n : Line) (m : Mesi) (ts : List Tag) → length ts ≤ ways → AreOnce ts → is_held n ts ≡ true → length ts ≡ length (put_front ways n m ts)
hit-count ways n m ts short o held =
    let less : suc (length (without_line n ts)) ≡ length ts = length-without n ts o held in
    sym (ap length (take_all ways ((n, m) ∷ without_line n ts) (le_of less short)) ∙ less)
  where
    le_of : {a b c : ℕ} → a ≡ b → b ≤ c → a ≤ c
    le_of e h = omega arith

last-evicts : (h : ℕ) (t : Tag) (ts : List Tag) → notes_that (is_kind Kind_is.Evict) (last_notes h (t ∷ ts)) ≡ 1
last-evicts h t [] = go t.1
  where
    go : (m : Mesi) → notes_that (is_kind Kind_is.Evict) (evict_notes h t.0 m) ≡ 1
    go M = refl
    go E = refl
    go S = refl
last-evicts h t (u ∷ ts) = last-evicts h u ts

miss-count : (ways h : ℕ) (n : Line) (m : Mesi) (ts : List Tag) → 0 < ways → length ts ≤ ways → is_held n ts ≡ false
    → 1 + length ts ≡ notes_that (is_kind Kind_is.Evict) (room_notes ways h ts) + length (put_front ways n m ts)
miss-count ways h n m ts some short out =
    subst (λ us. 1 + length ts ≡ notes_that (is_kind Kind_is.Evict) (room_notes ways h ts) + length (take ways ((n, m) ∷ us))) (sym (without_none n ts out))
    (go (leb ways (length ts)) refl)
  where
    full : (us : List Tag) → ways ≤ length us → notes_that (is_kind Kind_is.Evict) (last_notes h us) ≡ 1
    full [] le = absurd (omega arith)
    full (t ∷ us) le = last-evicts h t us

    go : (b : Bool) → leb ways (length ts) ≡ b
        → 1 + length ts ≡ notes_that (is_kind Kind_is.Evict) (cond b (last_notes h ts) []) + length (take ways ((n, m) ∷ ts))
    go true e =
        let le : ways ≤ length ts = leb-true ways (length ts) e in
        let left = full ts le in
        let cut : length (take ways ((n, m) ∷ ts)) ≡ ways = length-take ways ((n, m) ∷ ts) ∙ min-eq_left (up le) in
        omega arith
      where
        up : {a b : ℕ} → a ≤ b → a ≤ suc b
        up h = omega arith
    go false e =
        let room : length ts < ways = leb-false ways (length ts) e in
        let all : length (take ways ((n, m) ∷ ts)) ≡ suc (length ts) = ap length (take_all ways ((n, m) ∷ ts) room) in
        omega arith

-- ---- balance of all harts

abbrev pub count : Kind → List Note → ℕ
count kind ns = notes_that (is_kind kind) ns

pub record Total (ns : List Note) (before after : ℕ) : Type 0 where
  pub even : count Kind_is.Fill ns + before ≡ count Kind_is.Evict ns + count Kind_is.Drop ns + after

total-then : (xs ys : List Note) (a b c : ℕ) → Total xs a b → Total ys b c → Total (xs ++ ys) a c
total-then xs ys a b c x y =
    let first = x.even in
    let second = y.even in
    let fills = that-append (is_kind Kind_is.Fill) xs ys in
    let evicts = that-append (is_kind Kind_is.Evict) xs ys in
    let drops = that-append (is_kind Kind_is.Drop) xs ys in
    record { even = omega arith }

total-of : (ns : List Note) (a b f v d : ℕ) → count Kind_is.Fill ns ≡ f → count Kind_is.Evict ns ≡ v → count Kind_is.Drop ns ≡ d → f + a ≡ v + d + b → Total ns a b
total-of ns a b f v d hf hv hd e = record { even = omega arith }

total-same : (ns : List Note) (a b : ℕ) → a ≡ b → count Kind_is.Fill ns ≡ 0 → count Kind_is.Evict ns ≡ 0 → count Kind_is.Drop ns ≡ 0 → Total ns a b
total-same ns a b e f v d = record { even = omega arith }

pub skip : (q : Note → Bool) (kind : Kind) → ((k : ℕ) (l : Line) → q (note_of kind k l) ≡ false) → Skips q kind
skip q kind s = record { skips = s }

abbrev tag_count : Shape → Tags → ℕ
tag_count c tags = length (all_tags c tags)

-- an edit of every list that keeps its length
same-length : (n : ℕ) (f g : ℕ → List Tag) → ((k : ℕ) → length (f k) ≡ length (g k)) → length (each_below n f) ≡ length (each_below n g)
same-length n f g same =
    let sums = length-sum n f g (λ k. 0) (λ k. 0) (λ k u. ap (λ x. 0 + x) (same k)) in
    let none = sum-none n (λ k. 0) (λ k u. refl) in
    omega arith

same-count : (c : Shape) (tags new : Tags) → ((k s : ℕ) → length (tags k s) ≡ length (new k s)) → tag_count c tags ≡ tag_count c new
same-count c tags new same =
    same-length c.holders (λ k. each_below c.sets (tags k)) (λ k. each_below c.sets (new k)) (λ k. same-length c.sets (tags k) (new k) (same k))

-- an edit of one set's lists, by what each holder's list adds and loses
set-count : (c : Shape) (tags : Tags) (i set : ℕ) (own other : List Tag → List Tag) (x y : ℕ → ℕ) → set < c.sets
    → ((k : ℕ) → k < c.holders → x k + length (tags k set) ≡ y k + length (cond (eqb k i) (own (tags k set)) (other (tags k set))))
    → sum_below c.holders x + tag_count c tags ≡ sum_below c.holders y + tag_count c (changed_set i set own other tags)
set-count c tags i set own other x y u each =
    length-sum c.holders (λ k. each_below c.sets (tags k)) (λ k. each_below c.sets (changed_set i set own other tags k)) x y
    (λ k v. length-one c.sets set (x k) (y k) (tags k) (changed_set i set own other tags k) u
    (λ s ne. ap (λ b. length (cond b (cond (eqb k i) (own (tags k s)) (other (tags k s))) (tags k s))) (sym ne))
    (subst (λ b. x k + length (tags k set) ≡ y k + length (cond b (cond (eqb k i) (own (tags k set)) (other (tags k set))) (tags k set))) (sym (eq-eqb set set refl)) (each k v)))

-- what the accessing holder's list adds and loses, and what the others drop
edit-total : (c : Shape) (tags : Tags) (i set : ℕ) (own other : List Tag → List Tag) (ns : List Note) (f v : ℕ) (drops : ℕ → ℕ)
    → set < c.sets → i < c.holders
    → f + length (tags i set) ≡ v + drops i + length (own (tags i set))
    → ((k : ℕ) → k < c.holders → eqb k i ≡ false → length (tags k set) ≡ drops k + length (other (tags k set)))
    → count Kind_is.Fill ns ≡ f → count Kind_is.Evict ns ≡ v → count Kind_is.Drop ns ≡ sum_below c.holders drops
    → Total ns (tag_count c tags) (tag_count c (changed_set i set own other tags))
edit-total c tags i set own other ns f v drops u below mine theirs hf hv hd =
    let sums = set-count c tags i set own other (λ k. cond (eqb k i) f 0) (λ k. cond (eqb k i) v 0 + drops k) u each in
    let left = sum-one c.holders i f below in
    let right = sum-one c.holders i v below in
    let parts = sum-both c.holders (λ k. cond (eqb k i) v 0) drops in
    record { even = omega arith }
  where
    each : (k : ℕ) → k < c.holders → cond (eqb k i) f 0 + length (tags k set) ≡ cond (eqb k i) v 0 + drops k + length (cond (eqb k i) (own (tags k set)) (other (tags k set)))
    each k w = go (eqb k i) refl
      where
        go : (b : Bool) → eqb k i ≡ b → cond b f 0 + length (tags k set) ≡ cond b v 0 + drops k + length (cond b (own (tags k set)) (other (tags k set)))
        go true e = subst (λ j. f + length (tags j set) ≡ v + drops j + length (own (tags j set))) (sym (eqb-true k i e)) mine
        go false e = let same = theirs k w e in omega arith

-- ---- counts of notes of a kind

drop-count : (n : Line) (k : ℕ) (x : Option Mesi) → count Kind_is.Drop (leave_notes n k x) ≡ one (is_some x)
drop-count n k None = refl
drop-count n k (Some M) = refl
drop-count n k (Some E) = refl
drop-count n k (Some S) = refl

abbrev other_drops : Shape → Tags → ℕ → Line → ℕ → ℕ
other_drops c tags i n k = count Kind_is.Drop (cond (eqb k i) [] (leave_notes n k (held_state c tags k n)))

drops-at : (c : Shape) (tags : Tags) (i : ℕ) (n : Line) (k : ℕ) → eqb k i ≡ false → other_drops c tags i n k ≡ one (is_held n (tags k (set_number c n)))
drops-at c tags i n k e = ap (λ b. count Kind_is.Drop (cond b [] (leave_notes n k (held_state c tags k n)))) e ∙ drop-count n k (held_state c tags k n)

drops-self : (c : Shape) (tags : Tags) (i : ℕ) (n : Line) → other_drops c tags i n i ≡ 0
drops-self c tags i n = ap (λ b. count Kind_is.Drop (cond b [] (leave_notes n i (held_state c tags i n)))) (eq-eqb i i refl)

abbrev pub leave_kind : Kind → Type 0
leave_kind kind = (l : Line) (k : ℕ) (x : Option Mesi) → count kind (leave_notes l k x) ≡ 0

pub fills-leave : leave_kind Kind_is.Fill
fills-leave l k x = leave-none (is_kind Kind_is.Fill) (skip _ Kind_is.Back (λ k n. refl)) (skip _ Kind_is.Drop (λ k n. refl)) l k x

evicts-leave : leave_kind Kind_is.Evict
evicts-leave l k x = leave-none (is_kind Kind_is.Evict) (skip _ Kind_is.Back (λ k n. refl)) (skip _ Kind_is.Drop (λ k n. refl)) l k x

pub downs-total : (q : Note → Bool) → Skips q Kind_is.Back → Skips q Kind_is.Down → (c : Shape) (tags : Tags) (i : ℕ) (n : Line) → notes_that q (others_notes down_notes c tags i n) ≡ 0
downs-total q s t c tags i n = others-none q down_notes (down-none q s t) c tags i n

abbrev evicted : Shape → Tags → ℕ → Line → ℕ
evicted c tags i n = count Kind_is.Evict (room_notes c.ways i (tags i (set_number c n)))

pub fill-fills : (c : Shape) (tags : Tags) (i : ℕ) (n : Line) → count Kind_is.Fill (fill_notes c tags i n) ≡ 1
fill-fills c tags i n =
    let room = room-none (is_kind Kind_is.Fill) (skip _ Kind_is.Back (λ k m. refl)) (skip _ Kind_is.Evict (λ k m. refl)) c.ways i (tags i (set_number c n)) in
    let both : count Kind_is.Fill (fill_notes c tags i n) ≡ count Kind_is.Fill (room_notes c.ways i (tags i (set_number c n))) + 1 =
    that-append (is_kind Kind_is.Fill) (room_notes c.ways i (tags i (set_number c n))) (note_of Kind_is.Fill i n ∷ []) in
    omega arith

fill-evicts : (c : Shape) (tags : Tags) (i : ℕ) (n : Line) → count Kind_is.Evict (fill_notes c tags i n) ≡ evicted c tags i n
fill-evicts c tags i n =
    let both : count Kind_is.Evict (fill_notes c tags i n) ≡ evicted c tags i n + 0 =
    that-append (is_kind Kind_is.Evict) (room_notes c.ways i (tags i (set_number c n))) (note_of Kind_is.Fill i n ∷ []) in
    omega arith

fill-drops : (c : Shape) (tags : Tags) (i : ℕ) (n : Line) → count Kind_is.Drop (fill_notes c tags i n) ≡ 0
fill-drops c tags i n =
    let room = room-none (is_kind Kind_is.Drop) (skip _ Kind_is.Back (λ k m. refl)) (skip _ Kind_is.Evict (λ k m. refl)) c.ways i (tags i (set_number c n)) in
    let both : count Kind_is.Drop (fill_notes c tags i n) ≡ count Kind_is.Drop (room_notes c.ways i (tags i (set_number c n))) + 0 =
    that-append (is_kind Kind_is.Drop) (room_notes c.ways i (tags i (set_number c n))) (note_of Kind_is.Fill i n ∷ []) in
    omega arith

pub then-count : (q : Note → Bool) (xs ys : List Note) (a b : ℕ) → notes_that q xs ≡ a → notes_that q ys ≡ b → notes_that q (xs ++ ys) ≡ a + b
then-count q xs ys a b x y = that-append q xs ys ∙ (λ i. x i + y i)

-- ---- an access

module _ (c : Shape) (tags : Tags) (i : ℕ) (n : Line) (some : 0 < c.ways) (sets : 0 < c.sets) (below : i < c.holders) (fits : TagsFit c tags) where
  abbrev set : ℕ
  set = set_number c n

  in_sets : set < c.sets
  in_sets = mod-lt n.0 sets

  zeros : sum_below c.holders (λ k. 0) ≡ 0
  zeros = sum-none c.holders (λ k. 0) (λ k u. refl)

  plus_zero : {a b : ℕ} → a ≡ b → 0 + a ≡ 0 + 0 + b
  plus_zero e = omega arith

  zero_plus : {a b : ℕ} → a ≡ b → a ≡ 0 + b
  zero_plus e = omega arith

  own-hit : (m : Mesi) → is_held n (tags i set) ≡ true → length (tags i set) ≡ length (put_front c.ways n m (tags i set))
  own-hit m held = hit-count c.ways n m (tags i set) (fits.short i set) (fits.owners.once i set) held

  own-miss : (m : Mesi) → is_held n (tags i set) ≡ false → 1 + length (tags i set) ≡ evicted c tags i n + length (put_front c.ways n m (tags i set))
  own-miss m out = miss-count c.ways i n m (tags i set) some (fits.short i set) out

  load-total : (x : Option Mesi) → held_state c tags i n ≡ x
      → Total (load_notes c tags i n x) (tag_count c tags) (tag_count c (changed_set i set (put_front c.ways n (loaded_state c tags i n x)) (list_beside_load n x) tags))
  load-total (Some m) e =
      edit-total c tags i set (put_front c.ways n m) (list_beside_load n (Some m)) [] 0 0 (λ k. 0) in_sets below
      (plus_zero (own-hit m (ap is_some e))) (λ k u ne. zero_plus refl) refl refl (sym zeros)
  load-total None e =
      edit-total c tags i set (put_front c.ways n (loaded_state c tags i n None)) (shared_line n)
      (others_notes down_notes c tags i n ++ fill_notes c tags i n) 1 (evicted c tags i n) (λ k. 0) in_sets below
      (let miss = own-miss (loaded_state c tags i n None) (ap is_some e) in omega arith)
      (λ k u ne. zero_plus (sym (length-map (tags k set) (shared_at n))))
      (then-count (is_kind Kind_is.Fill) _ _ 0 1 (downs-total _ (skip _ Kind_is.Back (λ k m. refl)) (skip _ Kind_is.Down (λ k m. refl)) c tags i n) (fill-fills c tags i n))
      (then-count (is_kind Kind_is.Evict) _ _ 0 (evicted c tags i n) (downs-total _ (skip _ Kind_is.Back (λ k m. refl)) (skip _ Kind_is.Down (λ k m. refl)) c tags i n) (fill-evicts c tags i n) ∙ drop_zero (evicted c tags i n))
      (then-count (is_kind Kind_is.Drop) _ _ 0 0 (downs-total _ (skip _ Kind_is.Back (λ k m. refl)) (skip _ Kind_is.Down (λ k m. refl)) c tags i n) (fill-drops c tags i n) ∙ sym zeros)
    where
      drop_zero : (a : ℕ) → 0 + a ≡ a
      drop_zero a = omega arith

  -- where hart i owns the line, no other list has it
  others-free : is_owner (held_state c tags i n) ≡ true → (k : ℕ) → k < c.holders → eqb k i ≡ false → length (tags k set) ≡ 0 + length (without_line n (tags k set))
  others-free owned k u ne =
      let out : is_held n (tags k set) ≡ false = fits.owners.alone i k set n u (λ same. eqb-false k i ne (sym same)) owned in
      zero_plus (ap length (sym (without_none n (tags k set) out)))

  others-drop : (k : ℕ) → k < c.holders → eqb k i ≡ false → length (tags k set) ≡ other_drops c tags i n k + length (without_line n (tags k set))
  others-drop k u ne =
      without-count n (tags k set) (fits.owners.once k set) ∙ ap (λ d. d + length (without_line n (tags k set))) (sym (drops-at c tags i n k ne))

  drops-are : count Kind_is.Drop (others_notes leave_notes c tags i n) ≡ sum_below c.holders (other_drops c tags i n)
  drops-are = that-sum (is_kind Kind_is.Drop) c.holders _

  store-total : (x : Option Mesi) → held_state c tags i n ≡ x
      → Total (store_notes c tags i n x) (tag_count c tags) (tag_count c (changed_set i set (put_front c.ways n M) (without_line n) tags))
  store-total (Some M) e =
      edit-total c tags i set (put_front c.ways n M) (without_line n) [] 0 0 (λ k. 0) in_sets below
      (plus_zero (own-hit M (ap is_some e))) (others-free (ap is_owner e)) refl refl (sym zeros)
  store-total (Some E) e =
      edit-total c tags i set (put_front c.ways n M) (without_line n) [] 0 0 (λ k. 0) in_sets below
      (plus_zero (own-hit M (ap is_some e))) (others-free (ap is_owner e)) refl refl (sym zeros)
  store-total (Some S) e =
      edit-total c tags i set (put_front c.ways n M) (without_line n) (others_notes leave_notes c tags i n) 0 0 (other_drops c tags i n) in_sets below
      (let hit = own-hit M (ap is_some e) in let self = drops-self c tags i n in omega arith) others-drop
      (others-none (is_kind Kind_is.Fill) leave_notes fills-leave c tags i n) (others-none (is_kind Kind_is.Evict) leave_notes evicts-leave c tags i n) drops-are
  store-total None e =
      edit-total c tags i set (put_front c.ways n M) (without_line n) (others_notes leave_notes c tags i n ++ fill_notes c tags i n)
      1 (evicted c tags i n) (other_drops c tags i n) in_sets below
      (let miss = own-miss M (ap is_some e) in let self = drops-self c tags i n in omega arith) others-drop
      (then-count (is_kind Kind_is.Fill) _ _ 0 1 (others-none (is_kind Kind_is.Fill) leave_notes fills-leave c tags i n) (fill-fills c tags i n))
      (then-count (is_kind Kind_is.Evict) _ _ 0 (evicted c tags i n) (others-none (is_kind Kind_is.Evict) leave_notes evicts-leave c tags i n) (fill-evicts c tags i n) ∙ left_zero (evicted c tags i n))
      (then-count (is_kind Kind_is.Drop) _ _ _ 0 drops-are (fill-drops c tags i n) ∙ right_zero (sum_below c.holders (other_drops c tags i n)))
    where
      left_zero : (a : ℕ) → 0 + a ≡ a
      left_zero a = omega arith

      right_zero : (a : ℕ) → a + 0 ≡ a
      right_zero a = omega arith

use-total : (c : Shape) (tags : Tags) (i : ℕ) (u : Option LineUse) → 0 < c.ways → 0 < c.sets → i < c.holders → TagsFit c tags
    → Total (use_notes c tags i u) (tag_count c tags) (tag_count c (after_use c tags i u))
use-total c tags i None some sets below fits = total-same [] _ _ refl refl refl refl
use-total c tags i (Some u) some sets below fits = go u.stores
  where
    go : (b : Bool) → Total (cond b (store_notes c tags i u.line (held_state c tags i u.line)) (load_notes c tags i u.line (held_state c tags i u.line))) (tag_count c tags)
        (tag_count c (cond b (after_store c tags i u.line) (after_load c tags i u.line)))
    go true = store-total c tags i u.line some sets below fits (held_state c tags i u.line) refl
    go false = load-total c tags i u.line some sets below fits (held_state c tags i u.line) refl

-- ---- a commit

abbrev named_in : List Line → Tag → Bool
named_in lines t = names lines t.0

-- how many tags of a list are of these lines
abbrev named : List Line → List Tag → ℕ
named lines ts = length (filter (named_in lines) ts)

named-none : (ts : List Tag) → named [] ts ≡ 0
named-none [] = refl
named-none (t ∷ ts) = named-none ts

-- of a line that isn't held, no tag
named-absent : (n : Line) (lines : List Line) (ts : List Tag) → is_held n ts ≡ false → named (n ∷ lines) ts ≡ named lines ts
named-absent n lines [] out = refl
named-absent n lines (t ∷ ts) out = go (same_line t.0 n) refl out (named-absent n lines ts)
  where
    flip : same_line t.0 n ≡ false → same_line n t.0 ≡ false
    flip h = false_from_ne_true _ (λ e. false≢true (sym h ∙ same_line-eq t.0 n (sym (line_eq n t.0 e))))

    go : (b : Bool) → same_line t.0 n ≡ b → is_some (cond b (Some t.1) (lookup n ts)) ≡ false → (is_held n ts ≡ false → named (n ∷ lines) ts ≡ named lines ts)
        → length (cond (same_line n t.0 || names lines t.0) (t ∷ filter (named_in (n ∷ lines)) ts) (filter (named_in (n ∷ lines)) ts))
        ≡ length (cond (names lines t.0) (t ∷ filter (named_in lines) ts) (filter (named_in lines) ts))
    go true e out ih = absurd (true≢false out)
    go false e out ih =
        ap (λ b. length (cond (b || names lines t.0) (t ∷ filter (named_in (n ∷ lines)) ts) (filter (named_in (n ∷ lines)) ts))) (flip e)
        ∙ step (names lines t.0) (ih out)
      where
        step : (b : Bool) → length (filter (named_in (n ∷ lines)) ts) ≡ length (filter (named_in lines) ts)
            → length (cond b (t ∷ filter (named_in (n ∷ lines)) ts) (filter (named_in (n ∷ lines)) ts)) ≡ length (cond b (t ∷ filter (named_in lines) ts) (filter (named_in lines) ts))
        step true h = ap suc h
        step false h = h

named-cons : (n : Line) (lines : List Line) (ts : List Tag) → AreOnce ts → names lines n ≡ false → named (n ∷ lines) ts ≡ one (is_held n ts) + named lines ts
named-cons n lines [] o out = refl
named-cons n lines (t ∷ ts) o out = go (same_line t.0 n) refl (named-cons n lines ts o.1 out)
  where
    go : (b : Bool) → same_line t.0 n ≡ b → named (n ∷ lines) ts ≡ one (is_held n ts) + named lines ts
        → length (cond (same_line n t.0 || names lines t.0) (t ∷ filter (named_in (n ∷ lines)) ts) (filter (named_in (n ∷ lines)) ts))
        ≡ one (is_some (cond b (Some t.1) (lookup n ts))) + length (cond (names lines t.0) (t ∷ filter (named_in lines) ts) (filter (named_in lines) ts))
    go true e ih =
        let at : t.0 ≡ n = line_eq t.0 n e in
        let absent : is_held n ts ≡ false = subst (λ k. is_held k ts ≡ false) at o.0 in
        let first : same_line n t.0 ≡ true = same_line-eq n t.0 (sym at) in
        let later : names lines t.0 ≡ false = ap (names lines) at ∙ out in
        ap (λ b. length (cond (b || names lines t.0) (t ∷ filter (named_in (n ∷ lines)) ts) (filter (named_in (n ∷ lines)) ts))) first
        ∙ ap suc (named-absent n lines ts absent) ∙ one_plus (length (filter (named_in lines) ts))
        ∙ ap (λ b. 1 + length (cond b (t ∷ filter (named_in lines) ts) (filter (named_in lines) ts))) (sym later)
      where
        one_plus : (k : ℕ) → suc k ≡ 1 + k
        one_plus k = omega arith
    go false e ih =
        ap (λ b. length (cond (b || names lines t.0) (t ∷ filter (named_in (n ∷ lines)) ts) (filter (named_in (n ∷ lines)) ts)))
        (false_from_ne_true _ (λ h. false≢true (sym e ∙ same_line-eq t.0 n (sym (line_eq n t.0 h)))))
        ∙ step (names lines t.0) ih
      where
        step : (b : Bool) → named (n ∷ lines) ts ≡ one (is_held n ts) + named lines ts
            → length (cond b (t ∷ filter (named_in (n ∷ lines)) ts) (filter (named_in (n ∷ lines)) ts))
            ≡ one (is_held n ts) + length (cond b (t ∷ filter (named_in lines) ts) (filter (named_in lines) ts))
        step true h = omega arith
        step false h = h

-- tags of these lines, and the others
named-split : (lines : List Line) (ts : List Tag) → 0 + length ts ≡ named lines ts + length (filter (λ (t : Tag). not (names lines t.0)) ts)
named-split lines [] = refl
named-split lines (t ∷ ts) = go (names lines t.0) (named-split lines ts)
  where
    go : (b : Bool) → 0 + length ts ≡ named lines ts + length (filter (λ (u : Tag). not (names lines u.0)) ts)
        → 0 + length (t ∷ ts)
        ≡ length (cond b (t ∷ filter (named_in lines) ts) (filter (named_in lines) ts))
        + length (cond (not b) (t ∷ filter (λ (u : Tag). not (names lines u.0)) ts) (filter (λ (u : Tag). not (names lines u.0)) ts))
    go true h = omega arith
    go false h = omega arith

sum-ext : (n : ℕ) (x y : ℕ → ℕ) → ((k : ℕ) → k < n → x k ≡ y k) → sum_below n x ≡ sum_below n y
unfolding sum_below
sum-ext zero x y h = refl
sum-ext (suc n) x y h = let before = sum-ext n x y (λ k u. h k (omega arith)) in let here = h n (omega arith) in omega arith

-- the tags of these lines, of all holders
named_count : Shape → Tags → List Line → ℕ
named_count c tags lines = sum_below c.holders (λ k. sum_below c.sets (λ s. named lines (tags k s)))

named_count-nil : (c : Shape) (tags : Tags) → named_count c tags [] ≡ 0
unfolding named_count
named_count-nil c tags = sum-none c.holders _ (λ k u. sum-none c.sets _ (λ s v. named-none (tags k s)))

-- a line stands in the list of its set alone
held-sets : (c : Shape) (tags : Tags) (k : ℕ) (n : Line) → 0 < c.sets → TagsFit c tags → sum_below c.sets (λ s. one (is_held n (tags k s))) ≡ one (is_held n (tags k (set_number c n)))
held-sets c tags k n sets fits =
    sum-ext c.sets _ (λ s. cond (eqb s (set_number c n)) (one (is_held n (tags k (set_number c n)))) 0) (λ s u. each s)
    ∙ sum-one c.sets (set_number c n) (one (is_held n (tags k (set_number c n)))) (mod-lt n.0 sets)
  where
    each : (s : ℕ) → one (is_held n (tags k s)) ≡ cond (eqb s (set_number c n)) (one (is_held n (tags k (set_number c n)))) 0
    each s = go (eqb s (set_number c n)) refl
      where
        go : (b : Bool) → eqb s (set_number c n) ≡ b → one (is_held n (tags k s)) ≡ cond b (one (is_held n (tags k (set_number c n)))) 0
        go true e = ap (λ v. one (is_held n (tags k v))) (eqb-true s (set_number c n) e)
        go false e = ap one (fits.placed k s n e)

named_count-cons : (c : Shape) (tags : Tags) (n : Line) (lines : List Line) → 0 < c.sets → TagsFit c tags → names lines n ≡ false
    → named_count c tags (n ∷ lines) ≡ sum_below c.holders (λ k. one (is_held n (tags k (set_number c n)))) + named_count c tags lines
unfolding named_count
named_count-cons c tags n lines sets fits out =
    sum-ext c.holders _ (λ k. one (is_held n (tags k (set_number c n))) + sum_below c.sets (λ s. named lines (tags k s)))
    (λ k u. sum-ext c.sets _ (λ s. one (is_held n (tags k s)) + named lines (tags k s)) (λ s v. named-cons n lines (tags k s) (fits.owners.once k s) out)
    ∙ sum-both c.sets (λ s. one (is_held n (tags k s))) (λ s. named lines (tags k s))
    ∙ ap (λ a. a + sum_below c.sets (λ s. named lines (tags k s))) (held-sets c tags k n sets fits))
    ∙ sum-both c.holders (λ k. one (is_held n (tags k (set_number c n)))) (λ k. sum_below c.sets (λ s. named lines (tags k s)))

all-drops : (c : Shape) (tags : Tags) (n : Line) → count Kind_is.Drop (all_notes leave_notes c tags n) ≡ sum_below c.holders (λ k. one (is_held n (tags k (set_number c n))))
all-drops c tags n = that-sum (is_kind Kind_is.Drop) c.holders _ ∙ sum-ext c.holders _ _ (λ k u. drop-count n k (held_state c tags k n))

commit-drops : (c : Shape) (tags : Tags) (j : ℕ) (lines : List Line) → 0 < c.sets → TagsFit c tags → AreDistinct lines
    → count Kind_is.Drop (commit_notes c tags j lines) ≡ named_count c tags lines
commit-drops c tags j [] sets fits o = sym (named_count-nil c tags)
commit-drops c tags j (n ∷ lines) sets fits o =
    let later = commit-drops c tags j lines sets fits o.1 in
    let here = all-drops c tags n in
    let both : count Kind_is.Drop (commit_notes c tags j (n ∷ lines)) ≡ count Kind_is.Drop (all_notes leave_notes c tags n) + (0 + count Kind_is.Drop (commit_notes c tags j lines)) =
    that-append (is_kind Kind_is.Drop) (all_notes leave_notes c tags n) (note_of Kind_is.Merge j n ∷ commit_notes c tags j lines) in
    let cons = named_count-cons c tags n lines sets fits o.0 in
    omega arith

pub commit-kind : (kind : Kind) → leave_kind kind → ((j : ℕ) (l : Line) → is_kind kind (note_of Kind_is.Merge j l) ≡ false)
    → (c : Shape) (tags : Tags) (j : ℕ) (lines : List Line) → count kind (commit_notes c tags j lines) ≡ 0
commit-kind kind none merge c tags j [] = refl
commit-kind kind none merge c tags j (n ∷ lines) =
    let later = commit-kind kind none merge c tags j lines in
    let here = all-none (is_kind kind) leave_notes none c tags n in
    let first : one (is_kind kind (note_of Kind_is.Merge j n)) ≡ 0 = ap one (merge j n) in
    let both : count kind (commit_notes c tags j (n ∷ lines)) ≡ count kind (all_notes leave_notes c tags n) + (one (is_kind kind (note_of Kind_is.Merge j n)) + count kind (commit_notes c tags j lines)) =
    that-append (is_kind kind) (all_notes leave_notes c tags n) (note_of Kind_is.Merge j n ∷ commit_notes c tags j lines) in
    omega arith

commit-total : (c : Shape) (tags : Tags) (j : ℕ) (lines : List Line) → 0 < c.sets → TagsFit c tags → AreDistinct lines
    → Total (commit_notes c tags j lines) (tag_count c tags) (tag_count c (after_commit tags lines))
unfolding named_count
commit-total c tags j lines sets fits o =
    total-of (commit_notes c tags j lines) _ _ 0 0 (named_count c tags lines)
    (commit-kind Kind_is.Fill fills-leave (λ j l. refl) c tags j lines) (commit-kind Kind_is.Evict evicts-leave (λ j l. refl) c tags j lines)
    (commit-drops c tags j lines sets fits o)
    (let sums = length-sum c.holders (λ k. each_below c.sets (tags k)) (λ k. each_below c.sets (after_commit tags lines k)) (λ k. 0) (λ k. sum_below c.sets (λ s. named lines (tags k s))) (λ k u. inner k) in
    let none = sum-none c.holders (λ k. 0) (λ k u. refl) in omega arith)
  where
    inner : (k : ℕ) → 0 + length (each_below c.sets (tags k)) ≡ sum_below c.sets (λ s. named lines (tags k s)) + length (each_below c.sets (after_commit tags lines k))
    inner k =
        let sums = length-sum c.sets (tags k) (after_commit tags lines k) (λ s. 0) (λ s. named lines (tags k s)) (λ s u. named-split lines (tags k s)) in
        let none = sum-none c.sets (λ s. 0) (λ s u. refl) in
        omega arith

-- ---- every entry

flush-total : (c : Shape) (tags new : Tags) (lines : List Line) → ((k s : ℕ) → length (tags k s) ≡ length (new k s)) → Total (flushes_notes c tags lines) (tag_count c tags) (tag_count c new)
flush-total c tags new lines same =
    total-same (flushes_notes c tags lines) _ _ (same-count c tags new same)
    (flush-none (is_kind Kind_is.Fill) (skip _ Kind_is.Back (λ k n. refl)) c tags lines)
    (flush-none (is_kind Kind_is.Evict) (skip _ Kind_is.Back (λ k n. refl)) c tags lines)
    (flush-none (is_kind Kind_is.Drop) (skip _ Kind_is.Back (λ k n. refl)) c tags lines)

corefill-total : (j : ℕ) (x : Option Line) (a : ℕ) → Total (corefill_notes j x) a a
corefill-total j None a = total-same [] a a refl refl refl refl
corefill-total j (Some l) a = total-same (note_of Kind_is.CoreFill j l ∷ []) a a refl refl refl refl

flush_after-length : (tags : Tags) (x : Option Line) (k s : ℕ) → length (tags k s) ≡ length (flush_after tags x k s)
flush_after-length tags None k s = refl
flush_after-length tags (Some n) k s = sym (length-map (tags k s) (cleaned_at n))

-- a step is of a hart that there is
abbrev StepAt : Design → Entry → Type 0
StepAt p (Step h) = h < p.config.harts
StepAt p other = Unit {0}

core_entry-step : (p : Design) (w : World) (j : ℕ) (x : Option Opening) → StepAt p (core_entry p w j x)
core_entry-step p w j None =
    cond_both (is_flushing p w j) _ _ (StepAt p) (λ _. tt) (λ _. cond_both (eqb (w.seats j).backs p.config.retries) _ _ (StepAt p) (λ _. tt) (λ _. tt))
core_entry-step p w j (Some o) = go (opening_end p o)
  where
    go : (cause : Option ℕ) → StepAt p (ruling p j o cause)
    go None = tt
    go (Some c) = cond_both (is_conflict p o) (Back j o.acts c) (Commit j o.acts c) (StepAt p) (λ _. tt) (λ _. tt)

next-step : (p : Design) (w : World) (a : Actor) → IsActorOf p a → StepAt p (next p w a)
unfolding next
next-step p w (The.Hart h) u =
    cond_both (not (hart_runs (w.flat.harts h).status)) _ _ (StepAt p) (λ _. tt)
    (λ _. cond_both (is_locked_below w (λ k. false) p.config.cores) _ _ (StepAt p) (λ _. tt)
    (λ _. cond_both (waits_in p w h) _ _ (StepAt p) (λ _. tt) (λ _. u)))
next-step p w (The.Core j) u =
    cond_both (not (core_runs (w.flat.cores j).status)) _ _ (StepAt p) (λ _. tt)
    (λ _. cond_both (is_locked_below w (λ k. eqb k j) p.config.cores) _ _ (StepAt p) (λ _. tt)
    (λ _. core_entry-step p w j (w.seats j).opening))

took-total : (p : Design) (w : World) (e : Entry) → HasCaches p → StepAt p e → TagsFit (hart_shape p) w.tags
    → Total (notes_of p w e) (tag_count (hart_shape p) w.tags) (tag_count (hart_shape p) (tags_after p w e))
unfolding notes_of
took-total p w (Step h) lim u f = use-total (hart_shape p) w.tags h (hart_use p w h) lim.ways lim.sets u f
took-total p w (Commit j n c) lim u f = commit-total (hart_shape p) w.tags j (writes_of p (w.seats j).opening) lim.sets f (writes-distinct p (w.seats j).opening)
took-total p w (Lock j) lim u f = flush-total (hart_shape p) w.tags (after_lock w.tags) (dirty_of p w) (λ k s. sym (length-map (w.tags k s) cleaned_tag))
took-total p w (Flush j) lim u f =
    flush-total (hart_shape p) w.tags (flush_after w.tags (flush_line p w j)) (line_list (flush_line p w j)) (flush_after-length w.tags (flush_line p w j))
took-total p w (Spec j) lim u f = corefill-total j (filled_of p (w.seats j).opening) (tag_count (hart_shape p) w.tags)
took-total p w (Waits h) lim u f = total-same [] _ _ refl refl refl refl
took-total p w (Idle a) lim u f = total-same [] _ _ refl refl refl refl
took-total p w (Held a) lim u f = total-same [] _ _ refl refl refl refl
took-total p w (Open j) lim u f = total-same [] _ _ refl refl refl refl
took-total p w (Back j n c) lim u f = total-same [] _ _ refl refl refl refl
took-total p w (Kern j) lim u f = total-same [] _ _ refl refl refl refl

world-total : (p : Design) (w : World) (s : List Actor) → HasCaches p → TagsFit (hart_shape p) w.tags → AllByRecursion (IsActorOf p) s
    → Total w.notes 0 (tag_count (hart_shape p) w.tags) → Total (world_from p w s).notes 0 (tag_count (hart_shape p) (world_from p w s).tags)
unfolding world_from happens
world-total p w [] lim f u t = t
world-total p w (a ∷ s) lim f u t =
    world-total p (happens p w a) s lim (took-fits p w (next p w a) f) u.1
    (total-then w.notes (notes_of p w (next p w a)) _ _ _ t (took-total p w (next p w a) lim (next-step p w a u.0) f))

no_tags : (m n : ℕ) → length (each_below {A = Tag} m (λ k. each_below n (λ s. []))) ≡ 0
no_tags m n =
    let sums = length-sum m (λ k. each_below n (λ s. [])) (λ k. []) (λ k. 0) (λ k. 0) (λ k u. zero_plus (inner n)) in
    let flat = nils m in
    let none = sum-none m (λ k. 0) (λ k u. refl) in
    omega arith
  where
    zero_plus : {a : ℕ} → a ≡ 0 → 0 + a ≡ 0 + 0
    zero_plus e = omega arith

    nils : (n : ℕ) → length (each_below {A = Tag} n (λ s. [])) ≡ 0
    nils zero = refl
    nils (suc n) = let before = nils n in let both = length-append (each_below {A = Tag} n (λ s. [])) [] in omega arith

    inner : (n : ℕ) → length (each_below {A = Tag} n (λ s. [])) ≡ 0
    inner n = nils n

pub totals : (p : Design) (s : List Actor) → IsDesign p → AllByRecursion (IsActorOf p) s
    → count Kind_is.Fill (world p s).notes ≡ count Kind_is.Evict (world p s).notes + count Kind_is.Drop (world p s).notes + tag_count (hart_shape p) (world p s).tags
totals p s is u =
    let none = no_tags p.config.harts p.config.hart_sets in
    let t = (world-total p (start_world p) s (caches-fit p is) (start-fits p) u (total-same [] 0 _ (sym none) refl refl refl)).even in
    omega arith
