-- Where tries were opened and ended, by places in the list of events.
use Rattle.std.proofs.Common.{◌≡◌, ◌<◌, ◌≤◌, ℕ, zero, suc, Bool, true, false, List, [], ◌∷◌, ◌++◌, refl, sym, ap, ◌∙◌, subst, arith, ◌||◌, ◌&&◌, cond, eqb, ltb, not, ◌⊎◌, inl, inr, Option, Some, None, take}
use Rattle.std.specs.List.{slice_get}
use Rattle.std.specs.Option.{option_map, option_map_or, option_to_list}
use Rattle.std.proofs.lemmas.Bool.{false≢true, true≢false, cond_both, cond-true, cond-false, eqb-true, eq-eqb, or_parts, or_right, cases_eq, false_from_ne_true}
use Rattle.conda_base.specs.declared.Line.{Line}
use Rattle.conda_base.specs.declared.actor.Actor.{Actor}
use Rattle.conda_base.specs.declared.actor.Actor.TheVariants as The
use Rattle.schedule_log.specs.declared.entry.Entry.{Entry}
use Rattle.schedule_log.specs.declared.entry.Entry.TheVariants.{Step, Waits, Idle, Held, Open, Lock, Spec, Commit, Back, Flush, Kern}
use Rattle.offload_calls.specs.HartAct.{hart_runs}
use Rattle.offload_calls.specs.CoreActs.{core_runs}
use Rattle.chip_laws.specs.Design.{Design}
use Rattle.chip_laws.specs.Rules.{World, Seat, Opening, opening_end, is_conflict, is_locked_below, dirty_of, is_flushing, ruling, core_entry, next}
use Rattle.chip_laws.specs.Worlds.{flat_after, changed, told, seat_opened, seat_committed, seat_back, one_more, seat_after, happens, start_world, world_from}
use Rattle.chip_laws.specs.Entries.{is_lock, is_spec, is_opening, is_ending, is_boundary}
use Rattle.chip_laws.specs.Places.{world_at, is_at, IsLastAt, IsOpenedAt, acts_between, IsTryFrom, IsOpening, AlwaysOpenings, IsEndFrom, AlwaysEnds}
use Rattle.chip_laws.proofs.WorldFacts.{CommitsAt, waits_in}

-- ---- events by place

take_next : {A : Type 0} (s : List A) (t : ℕ) → take (suc t) s ≡ take t s ++ option_to_list (slice_get s t)
take_next [] zero = refl
take_next [] (suc t) = refl
take_next (x ∷ xs) zero = refl
take_next (x ∷ xs) (suc t) = ap (λ ys. x ∷ ys) (take_next xs t)

take_none : {A : Type 0} (s : List A) → take zero s ≡ []
take_none [] = refl
take_none (x ∷ xs) = refl

world_from-append : (d : Design) (w : World) (xs ys : List Actor) → world_from d w (xs ++ ys) ≡ world_from d (world_from d w xs) ys
unfolding world_from
world_from-append d w [] ys = refl
world_from-append d w (x ∷ xs) ys = world_from-append d (happens d w x) xs ys

-- what stands after one more event, if there is one
unfoldable pub after_option : Design → World → Option Actor → World
after_option d w None = w
after_option d w (Some a) = happens d w a

pub world_next : (d : Design) (s : List Actor) (t : ℕ) → world_at d s (suc t) ≡ after_option d (world_at d s t) (slice_get s t)
unfolding world_from after_option
world_next d s t = ap (world_from d (start_world d)) (take_next s t) ∙ world_from-append d (start_world d) (take t s) (option_to_list (slice_get s t)) ∙ go (slice_get s t)
  where
    go : (x : Option Actor) → world_from d (world_from d (start_world d) (take t s)) (option_to_list x) ≡ after_option d (world_from d (start_world d) (take t s)) x
    go None = refl
    go (Some a) = refl

pub world_first : (d : Design) (s : List Actor) → world_at d s 0 ≡ start_world d
unfolding world_from
world_first d s = ap (world_from d (start_world d)) (take_none s)

-- ---- what an entry makes of an open try

-- the try with an act more, or as it was
pub record IsGrown (more : Bool) (old new : Opening) : Type 0 where
  pub regs : new.regs ≡ old.regs
  pub locked : new.locked ≡ old.locked
  pub acts : new.acts ≡ cond more (suc old.acts) old.acts

abbrev pub GoesOn : Bool → Option Opening → Option Opening → Type 0
GoesOn more None None = Unit {0}
GoesOn more None (Some o) = ⊥
GoesOn more (Some o) None = ⊥
GoesOn more (Some old) (Some new) = IsGrown more old new

goes_told : (lines : List Line) (x : Option Opening) → GoesOn false x (told lines x)
goes_told lines None = tt
goes_told lines (Some o) = record { regs = refl; locked = refl; acts = refl }

goes_same : (x : Option Opening) → GoesOn false x x
goes_same None = tt
goes_same (Some o) = record { regs = refl; locked = refl; acts = refl }

goes_more : (d : Design) (w : World) (x : Option Opening) → GoesOn true x (one_more d w x)
goes_more d w None = tt
goes_more d w (Some o) = record { regs = refl; locked = refl; acts = refl }

pub swapped : (j k : ℕ) → eqb k j ≡ true → eqb j k ≡ true
swapped j k e = eq-eqb j k (sym (eqb-true k j e))

pub other_way : (j k : ℕ) → eqb k j ≡ false → eqb j k ≡ false
other_way j k e = false_from_ne_true _ (λ same. false≢true (sym e ∙ swapped k j same))

-- an entry that neither opens nor ends core j's try
goes_on : (d : Design) (w : World) (e : Entry) (j : ℕ) → is_boundary j e ≡ false
    → GoesOn (is_spec j e) (w.seats j).opening (seat_after d w (flat_after d w.flat e) e j).opening
goes_on d w (Step h) j n = goes_told (changed d w (Step h)) (w.seats j).opening
goes_on d w (Waits h) j n = goes_same (w.seats j).opening
goes_on d w (Idle a) j n = goes_same (w.seats j).opening
goes_on d w (Held a) j n = goes_same (w.seats j).opening
goes_on d w (Kern k) j n = goes_same (w.seats j).opening
goes_on d w (Open k) j n =
    subst (λ (s : Seat). GoesOn false (w.seats j).opening s.opening) (sym (cond-false (eqb j k) _ (w.seats j) (other_way j k (or_parts (eqb k j) false n).0)))
    (goes_same (w.seats j).opening)
goes_on d w (Lock k) j n =
    subst (λ (s : Seat). GoesOn false (w.seats j).opening s.opening) (sym (cond-false (eqb j k) _ (w.seats j) (other_way j k (or_parts (eqb k j) false n).0)))
    (goes_same (w.seats j).opening)
goes_on d w (Commit k m c) j n =
    subst (λ (s : Seat). GoesOn false (w.seats j).opening s.opening)
    (sym (cond-false (eqb j k) (seat_committed w k) (record (w.seats j) { opening = told (changed d w (Commit k m c)) (w.seats j).opening }) (other_way j k n)))
    (goes_told (changed d w (Commit k m c)) (w.seats j).opening)
goes_on d w (Back k m c) j n =
    subst (λ (s : Seat). GoesOn false (w.seats j).opening s.opening) (sym (cond-false (eqb j k) _ (w.seats j) (other_way j k n)))
    (goes_same (w.seats j).opening)
goes_on d w (Flush k) j n =
    cond_both (eqb j k) _ (w.seats j) (λ (s : Seat). GoesOn false (w.seats j).opening s.opening)
    (λ e. subst (λ i. GoesOn false (w.seats i).opening (w.seats k).opening) (sym (eqb-true j k e)) (goes_same (w.seats k).opening))
    (λ _. goes_same (w.seats j).opening)
goes_on d w (Spec k) j n = go (eqb k j) refl
  where
    more : Seat
    more = record (w.seats k) { opening = one_more d w (w.seats k).opening }

    go : (b : Bool) → eqb k j ≡ b → GoesOn b (w.seats j).opening (cond (eqb j k) more (w.seats j)).opening
    go true e =
        subst (λ (s : Seat). GoesOn true (w.seats j).opening s.opening) (sym (cond-true (eqb j k) more (w.seats j) (swapped j k e)))
        (subst (λ i. GoesOn true (w.seats i).opening (one_more d w (w.seats k).opening)) (eqb-true k j e) (goes_more d w (w.seats k).opening))
    go false e =
        subst (λ (s : Seat). GoesOn false (w.seats j).opening s.opening) (sym (cond-false (eqb j k) more (w.seats j) (other_way j k e)))
        (goes_same (w.seats j).opening)

-- a try just opened
abbrev pub IsNew : World → ℕ → Bool → Option Opening → Type 0
IsNew w j locked None = ⊥
IsNew w j locked (Some o) = (o.regs ≡ (w.flat.cores j).regs) × (o.acts ≡ 0) × (o.locked ≡ locked)

opened_seat : (w : World) (j k : ℕ) (locked : Bool) (foreign : List Line) → eqb k j ≡ true
    → IsNew w j locked (cond (eqb j k) (seat_opened w k locked foreign) (w.seats j)).opening
opened_seat w j k locked foreign e =
    subst (λ (s : Seat). IsNew w j locked s.opening) (sym (cond-true (eqb j k) (seat_opened w k locked foreign) (w.seats j) (swapped j k e)))
    (ap (λ i. (w.flat.cores i).regs) (eqb-true k j e), refl, refl)

opens : (d : Design) (w : World) (e : Entry) (j : ℕ) → is_opening j e ≡ true
    → IsNew w j (is_lock j e) (seat_after d w (flat_after d w.flat e) e j).opening
opens d w (Open k) j h = opened_seat w j k false (dirty_of d w) h
opens d w (Lock k) j h = subst (λ b. IsNew w j b (seat_after d w w.flat (Lock k) j).opening) (sym h) (opened_seat w j k true [] h)
opens d w (Step i) j h = absurd (false≢true h)
opens d w (Waits i) j h = absurd (false≢true h)
opens d w (Idle a) j h = absurd (false≢true h)
opens d w (Held a) j h = absurd (false≢true h)
opens d w (Kern k) j h = absurd (false≢true h)
opens d w (Spec k) j h = absurd (false≢true h)
opens d w (Commit k n c) j h = absurd (false≢true h)
opens d w (Back k n c) j h = absurd (false≢true h)
opens d w (Flush k) j h = absurd (false≢true h)

ends : (d : Design) (w : World) (e : Entry) (j : ℕ) → is_ending j e ≡ true → (seat_after d w (flat_after d w.flat e) e j).opening ≡ None
ends d w (Commit k n c) j h = ap (λ (s : Seat). s.opening) (cond-true (eqb j k) (seat_committed w k) _ (swapped j k h))
ends d w (Back k n c) j h = ap (λ (s : Seat). s.opening) (cond-true (eqb j k) (seat_back d w k) (w.seats j) (swapped j k h))
ends d w (Step i) j h = absurd (false≢true h)
ends d w (Waits i) j h = absurd (false≢true h)
ends d w (Idle a) j h = absurd (false≢true h)
ends d w (Held a) j h = absurd (false≢true h)
ends d w (Kern k) j h = absurd (false≢true h)
ends d w (Spec k) j h = absurd (false≢true h)
ends d w (Open k) j h = absurd (false≢true h)
ends d w (Lock k) j h = absurd (false≢true h)
ends d w (Flush k) j h = absurd (false≢true h)

-- ---- the same at a place, where an event may stand

-- the entry of an event, if there is one, passes a test
abbrev pub passes : (Entry → Bool) → Design → World → Option Actor → Bool
passes test d w x = option_map_or test (option_map (next d w) x) false

pub boundary_parts : (d : Design) (w : World) (x : Option Actor) (j : ℕ)
    → passes (is_boundary j) d w x ≡ (passes (is_opening j) d w x || passes (is_ending j) d w x)
boundary_parts d w None j = refl
boundary_parts d w (Some a) j = refl

pub goes_at : (d : Design) (w : World) (x : Option Actor) (j : ℕ) → passes (is_boundary j) d w x ≡ false
    → GoesOn (passes (is_spec j) d w x) (w.seats j).opening ((after_option d w x).seats j).opening
unfolding happens after_option
goes_at d w None j n = goes_same (w.seats j).opening
goes_at d w (Some a) j n = goes_on d w (next d w a) j n

pub opens_at : (d : Design) (w : World) (x : Option Actor) (j : ℕ) → passes (is_opening j) d w x ≡ true
    → IsNew w j (passes (is_lock j) d w x) ((after_option d w x).seats j).opening
unfolding happens after_option
opens_at d w None j h = absurd (false≢true h)
opens_at d w (Some a) j h = opens d w (next d w a) j h

ends_at : (d : Design) (w : World) (x : Option Actor) (j : ℕ) → passes (is_ending j) d w x ≡ true → ((after_option d w x).seats j).opening ≡ None
unfolding happens after_option
ends_at d w None j h = absurd (false≢true h)
ends_at d w (Some a) j h = ends d w (next d w a) j h

-- ---- places

module _ (d : Design) (events : List Actor) (j : ℕ) where
  -- the last place stays the last one, over a place that opens and ends nothing
  pub last_longer : (test : Entry → Bool) (s t : ℕ) → is_at (is_boundary j) d events t ≡ false → IsLastAt test d events j s t → IsLastAt test d events j s (suc t)
  last_longer test s t none last = record { before = let b : s < t = last.before in omega arith; here = last.here; since = λ u a b. go u a b (cases_eq u t) }
    where
      go : (u : ℕ) → s < u → u < suc t → ((u ≡ t) ⊎ (u ≡ t → ⊥)) → is_at (is_boundary j) d events u ≡ false
      go u a b (inl e) = ap (is_at (is_boundary j) d events) e ∙ none
      go u a b (inr ne) = last.since u a (omega arith)

  -- the last one is this place, or was the last before, and then this place opens and ends nothing
  pub last_cases : (test : Entry → Bool) (s t : ℕ) → IsLastAt test d events j s (suc t)
      → (is_at test d events t ≡ true) ⊎ ((is_at (is_boundary j) d events t ≡ false) × IsLastAt test d events j s t)
  last_cases test s t last = go (cases_eq s t)
    where
      go : ((s ≡ t) ⊎ (s ≡ t → ⊥)) → (is_at test d events t ≡ true) ⊎ ((is_at (is_boundary j) d events t ≡ false) × IsLastAt test d events j s t)
      go (inl e) = inl (ap (is_at test d events) (sym e) ∙ last.here)
      go (inr ne) =
          let b : s < suc t = last.before in
          inr (last.since t (omega arith) (omega arith), record { before = omega arith; here = last.here; since = λ u a b. last.since u a (omega arith) })

  -- this place itself
  pub last_here : (test : Entry → Bool) (t : ℕ) → is_at test d events t ≡ true → IsLastAt test d events j t (suc t)
  last_here test t h = record { before = omega arith; here = h; since = λ u a b. absurd (omega arith) }

  acts_none : (s t : ℕ) → t ≤ suc s → acts_between d events j s t ≡ 0
  acts_none s zero h = refl
  acts_none s (suc t) h = ap (λ b. cond (b && is_at (is_spec j) d events t) (suc (acts_between d events j s t)) (acts_between d events j s t)) (not_above s t (omega arith)) ∙ acts_none s t (omega arith)
    where
      not_above : (s t : ℕ) → t ≤ s → ltb s t ≡ false
      not_above s t h = grind arith

  acts_more : (s t : ℕ) → s < t → acts_between d events j s (suc t) ≡ cond (is_at (is_spec j) d events t) (suc (acts_between d events j s t)) (acts_between d events j s t)
  acts_more s t h = ap (λ b. cond (b && is_at (is_spec j) d events t) (suc (acts_between d events j s t)) (acts_between d events j s t)) (above s t h)
    where
      above : (s t : ℕ) → s < t → ltb s t ≡ true
      above s t h = grind arith

  -- a place that opens a try
  opening_new : (t : ℕ) (y : Option Opening) → is_at (is_opening j) d events t ≡ true → IsNew (world_at d events t) j (is_at (is_lock j) d events t) y
      → IsOpening d events j (suc t) y
  opening_new t None h new = absurd new
  opening_new t (Some o) h new = (
    t,
    record {
      place = last_here (is_opening j) t h;
      regs = new.0;
      acts = new.1 ∙ sym (acts_none t (suc t) (omega arith));
      locked = new.2;
    },
  )

  -- a place that ends one
  opening_ended : (t : ℕ) → is_at (is_opening j) d events t ≡ false → is_at (is_boundary j) d events t ≡ true → IsOpening d events j (suc t) None
  opening_ended t shut on s last = go (last_cases (is_opening j) s t last)
    where
      go : (is_at (is_opening j) d events t ≡ true) ⊎ ((is_at (is_boundary j) d events t ≡ false) × IsOpenedAt d events j s t) → ⊥
      go (inl h) = false≢true (sym shut ∙ h)
      go (inr h) = true≢false (sym on ∙ h.0)

  -- a place that does neither
  opening_later : (t : ℕ) (x y : Option Opening) → is_at (is_opening j) d events t ≡ false → is_at (is_boundary j) d events t ≡ false
      → GoesOn (is_at (is_spec j) d events t) x y → IsOpening d events j t x → IsOpening d events j (suc t) y
  opening_later t None None shut none on before = λ s last. go s (last_cases (is_opening j) s t last)
    where
      go : (s : ℕ) → (is_at (is_opening j) d events t ≡ true) ⊎ ((is_at (is_boundary j) d events t ≡ false) × IsOpenedAt d events j s t) → ⊥
      go s (inl h) = false≢true (sym shut ∙ h)
      go s (inr h) = before s h.1
  opening_later t None (Some o) shut none on before = absurd on
  opening_later t (Some o) None shut none on before = absurd on
  opening_later t (Some o) (Some q) shut none on before =
      let from : IsTryFrom d events j before.0 t o = before.1 in (
        before.0,
        record {
          place = last_longer (is_opening j) before.0 t none from.place;
          regs = on.regs ∙ from.regs;
          acts = on.acts ∙ ap (λ n. cond (is_at (is_spec j) d events t) (suc n) n) from.acts ∙ sym (acts_more before.0 t from.place.before);
          locked = on.locked ∙ from.locked;
        },
      )

  opening_next : (t : ℕ) → IsOpening d events j t ((world_at d events t).seats j).opening
      → (opened ended : Bool) → is_at (is_opening j) d events t ≡ opened → is_at (is_ending j) d events t ≡ ended
      → IsOpening d events j (suc t) ((after_option d (world_at d events t) (slice_get events t)).seats j).opening
  opening_next t before true ended h k = opening_new t _ h (opens_at d (world_at d events t) (slice_get events t) j h)
  opening_next t before false true h k =
      subst (IsOpening d events j (suc t)) (sym (ends_at d (world_at d events t) (slice_get events t) j k))
      (opening_ended t h (boundary_parts d (world_at d events t) (slice_get events t) j ∙ or_right _ _ k))
  opening_next t before false false h k =
      let none : is_at (is_boundary j) d events t ≡ false =
      boundary_parts d (world_at d events t) (slice_get events t) j ∙ ap (λ b. b || is_at (is_ending j) d events t) h ∙ k in
      opening_later t _ _ h none (goes_at d (world_at d events t) (slice_get events t) j none) before

pub openings : AlwaysOpenings
openings d events j zero =
    subst (λ (w : World). IsOpening d events j 0 (w.seats j).opening) (sym (world_first d events))
    (λ s last. let before : s < 0 = last.before in absurd (omega arith))
openings d events j (suc t) =
    subst (λ (w : World). IsOpening d events j (suc t) (w.seats j).opening) (sym (world_next d events t))
    (opening_next d events j t (openings d events j t) (is_at (is_opening j) d events t) (is_at (is_ending j) d events t) refl refl)

-- ---- ends

-- an end is of an open try with so many acts
abbrev pub EndsAt : ℕ → Option Opening → Type 0
EndsAt n None = ⊥
EndsAt n (Some o) = n ≡ o.acts

pub ends_of : (d : Design) (n : ℕ) (x : Option Opening) → CommitsAt d n x → EndsAt n x
ends_of d n None c = absurd c
ends_of d n (Some o) c = c.0

abbrev Ends : World → Entry → Type 0
Ends w (Commit j n c) = EndsAt n (w.seats j).opening
Ends w (Back j n c) = EndsAt n (w.seats j).opening
Ends w other = Unit {0}

core_entry-ends : (d : Design) (w : World) (j : ℕ) (x : Option Opening) → (w.seats j).opening ≡ x → Ends w (core_entry d w j x)
core_entry-ends d w j None e =
    cond_both (is_flushing d w j) (Flush j) (cond (eqb (w.seats j).backs d.config.retries) (Lock j) (Open j)) (Ends w)
    (λ _. tt) (λ _. cond_both (eqb (w.seats j).backs d.config.retries) (Lock j) (Open j) (Ends w) (λ _. tt) (λ _. tt))
core_entry-ends d w j (Some o) e = go (opening_end d o)
  where
    go : (cause : Option ℕ) → Ends w (ruling d j o cause)
    go None = tt
    go (Some c) =
        cond_both (is_conflict d o) (Back j o.acts c) (Commit j o.acts c) (Ends w)
        (λ _. subst (EndsAt o.acts) (sym e) refl) (λ _. subst (EndsAt o.acts) (sym e) refl)

next-ends : (d : Design) (w : World) (a : Actor) → Ends w (next d w a)
unfolding next
next-ends d w (The.Hart h) =
    cond_both (not (hart_runs (w.flat.harts h).status)) _ _ (Ends w) (λ _. tt)
    (λ _. cond_both (is_locked_below w (λ k. false) d.config.cores) _ _ (Ends w) (λ _. tt)
    (λ _. cond_both (waits_in d w h) _ _ (Ends w) (λ _. tt) (λ _. tt)))
next-ends d w (The.Core j) =
    cond_both (not (core_runs (w.flat.cores j).status)) _ _ (Ends w) (λ _. tt)
    (λ _. cond_both (is_locked_below w (λ k. eqb k j) d.config.cores) _ _ (Ends w) (λ _. tt)
    (λ _. core_entry-ends d w j (w.seats j).opening refl))

pub opened_of : (d : Design) (events : List Actor) (j n t : ℕ) (x : Option Opening) → IsOpening d events j t x → EndsAt n x
    → (s : ℕ) × IsEndFrom d events j n s t
opened_of d events j n t None is h = absurd h
opened_of d events j n t (Some o) is h = (is.0, record { opened = is.1.place; acts = h ∙ is.1.acts })

ended_at : (d : Design) (w : World) (x : Option Actor) (e : Entry) → option_map (next d w) x ≡ Some e → Ends w e
ended_at d w None e h = absurd (let k : None ≡ Some e = h in cc)
ended_at d w (Some a) e h = let same : next d w a ≡ e = cc in subst (Ends w) same (next-ends d w a)

pub all_ends : AlwaysEnds
all_ends d events t = record {
  commits = λ j n c h. opened_of d events j n t _ (openings d events j t) (ended_at d (world_at d events t) (slice_get events t) (Commit j n c) h);
  backs = λ j n c h. opened_of d events j n t _ (openings d events j t) (ended_at d (world_at d events t) (slice_get events t) (Back j n c) h);
}
