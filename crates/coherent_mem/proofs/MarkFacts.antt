-- The marks of sets with modified lines.
use Rattle.std.proofs.Common.{◌≡◌, ◌≢◌, ℕ, suc, ◌%◌, ◌+◌, ◌*◌, ◌/◌, ◌<◌, ◌≤◌, ◌⊎◌, inl, inr, ⊎_elim, Bool, true, false, List, [], ◌∷◌, Option, Some, None, length, get_or, set, eqb, cond, sym, ap, subst, ◌∙◌, refl, arith}
use Rattle.std.proofs.lemmas.List.{length-set, get_or-set_same, get_or-set_other}
use Rattle.std.proofs.lemmas.Bool.{cases_Bool, cases_eq, eqb-true, eq-eqb}
use Rattle.std.proofs.lemmas.Nat.{mod_below, mul-add-lt, div-mul-add, mod-mul-add}
use Rattle.std.specs.List.{slice_get}
use Rattle.std.specs.Option.{is_some, MatchOption}
use Rattle.set_assoc.specs.Entries.{lookup}
use Rattle.conda_base.specs.declared.Line.{Line}
use Rattle.conda_base.specs.declared.Mesi.{Mesi}
use Rattle.conda_base.specs.declared.Mesi.TheVariants.{M, E, S}
use Rattle.conda_base.specs.LineLists.{line_at}
use Rattle.line_memory.specs.Tags.{Tag, is_modified, without_line, cleaned_line, cleaned_state, held_state}
use Rattle.line_memory.specs.Backing.{BackingView, HasSameNumbers, flushed, shape_of}
use Rattle.line_memory.specs.Access.{put_front, after_store}
use Rattle.line_memory.specs.Memory.{Memory}
use Rattle.coherent_mem.specs.Marked.{AreMarked, IsCleanFrom, is_m_at}
use Rattle.coherent_mem.specs.Moves.{IsAlone}
use Rattle.coherent_mem.specs.Parts.{Parts, AreParts, shown}
use Rattle.coherent_mem.specs.Steps.{StepsTo}
use Rattle.coherent_mem.proofs.AloneFacts.{lookup-without_line}
use Rattle.coherent_mem.proofs.CacheFacts.{test_off}
use Rattle.coherent_mem.proofs.CoherentFacts.{coherent}
use Rattle.coherent_mem.proofs.MergeFacts.{with_memory}
use Rattle.conda_base.proofs.LineLemmas.{line_by_number}

-- no line has become M
pub marked_same : (a b : BackingView) (marks : List Bool) → HasSameNumbers a b → ((l : Line) (k : ℕ) → held_state (shape_of b) b.tags k l ≡ Some M → held_state (shape_of a) a.tags k l ≡ Some M) → AreMarked a marks → AreMarked b marks
marked_same a b marks same quiet is = record {
  count = is.count ∙ sym (ap (λ (n : ℕ). n * b.sets) same.holders ∙ ap (λ (n : ℕ). a.holders * n) same.sets);
  marked = λ l h m. ap (λ (n : ℕ). get_or marks (h * n + l.0 % n) false) same.sets ∙ is.marked l h (quiet l h m);
}

-- one line may have become M, and its set is marked
pub marked_more : (a b : BackingView) (h : ℕ) (l : Line) (marks : List Bool) → HasSameNumbers a b → 0 < a.sets → h < a.holders → ((j : Line) (k : ℕ) → held_state (shape_of b) b.tags k j ≡ Some M → ((j.0 ≡ l.0) × (k ≡ h)) ⊎ (held_state (shape_of a) a.tags k j ≡ Some M)) → AreMarked a marks → AreMarked b (set marks (h * a.sets + l.0 % a.sets) true)
marked_more a b h l marks same some inside from is =
    let place : ℕ = h * a.sets + l.0 % a.sets in
    let count = is.count in
    let low : l.0 % a.sets < a.sets = mod_below l.0 a.sets some in
    let below : place < length marks = omega (arith, mul-add-lt h a.sets (l.0 % a.sets) a.holders inside low) in
    record {
      count = length-set marks place true ∙ count ∙ sym (ap (λ (n : ℕ). n * b.sets) same.holders ∙ ap (λ (n : ℕ). a.holders * n) same.sets);
      marked = λ j k m. ap (λ (n : ℕ). get_or (set marks place true) (k * n + j.0 % n) false) same.sets ∙ ⊎_elim
          (λ (here : k * a.sets + j.0 % a.sets ≡ place). ap (λ i. get_or (set marks place true) i false) here ∙ get_or-set_same marks place true false below)
          (λ (apart : k * a.sets + j.0 % a.sets ≢ place). get_or-set_other marks place (k * a.sets + j.0 % a.sets) true false apart ∙ ⊎_elim
          (λ (this : (j.0 ≡ l.0) × (k ≡ h)). absurd (apart (ap (λ i. k * a.sets + i % a.sets) this.0 ∙ ap (λ i. i * a.sets + l.0 % a.sets) this.1)))
          (λ was. is.marked j k was)
          (from j k m))
          (cases_eq (k * a.sets + j.0 % a.sets) place);
    }

pub lookup-without_line_other : (l j : Line) (tags : List Tag) → j.0 ≢ l.0 → lookup j (without_line l tags) ≡ lookup j tags
lookup-without_line_other l j [] apart = refl
lookup-without_line_other l j (tag ∷ tags) apart =
    ⊎_elim
    (λ (on : eqb tag.0.0 l.0 ≡ true).
    let off : eqb tag.0.0 j.0 ≡ false = test_off tag.0.0 j.0 (λ same. apart (sym same ∙ eqb-true _ _ on)) in
    rw (on, off) (lookup-without_line_other l j tags apart))
    (λ (off : eqb tag.0.0 l.0 ≡ false). rw off
    (⊎_elim (λ (here : eqb tag.0.0 j.0 ≡ true). rw here refl) (λ (no : eqb tag.0.0 j.0 ≡ false). rw no (lookup-without_line_other l j tags apart)) (cases_Bool (eqb tag.0.0 j.0))))
    (cases_Bool (eqb tag.0.0 l.0))

-- after a store by a holder that was alone, only its line may have become M
pub stored_states : (p u t : Parts) (h : ℕ) (l : Line) (view : List ℕ) → IsAlone h l p u → StepsTo (after_store (shape_of (shown p)) (shown p).tags h l) view (shown p) (shown t)
    → (j : Line) (k : ℕ) → held_state (shape_of (shown t)) (shown t).tags k j ≡ Some M → ((j.0 ≡ l.0) × (k ≡ h)) ⊎ (held_state (shape_of (shown u)) (shown u).tags k j ≡ Some M)
stored_states p u t h l view alone steps j k m =
    let n : ℕ = l.0 % p.sets in
    let s : ℕ = j.0 % p.sets in
    let after : ℕ → ℕ → List Tag = after_store (shape_of (shown p)) (shown p).tags h l in
    let m_after : lookup j (after k s) ≡ Some M = sym (ap (λ (c : ℕ). lookup j ((shown t).tags k (j.0 % c))) steps.numbers.sets ∙ ap (λ (f : ℕ → ℕ → List Tag). lookup j (f k s)) steps.tags) ∙ m in
    let back : lookup j ((shown u).tags k s) ≡ held_state (shape_of (shown u)) (shown u).tags k j = sym (ap (λ (c : ℕ). lookup j ((shown u).tags k (j.0 % c))) alone.numbers.sets) in
    ⊎_elim
    (λ (line : j.0 ≡ l.0). ⊎_elim
    (λ (same : k ≡ h). inl (line, same))
    (λ (apart : k ≢ h).
    let here : s ≡ n = ap (λ i. i % p.sets) line in
    let list : after k s ≡ without_line l ((shown p).tags k s) = rw (eq-eqb s n here, test_off k h apart) refl in
    let none : lookup j (after k s) ≡ None = ap (λ b. lookup b (after k s)) (line_by_number j l line) ∙ ap (λ (ts : List Tag). lookup l ts) list ∙ lookup-without_line l ((shown p).tags k s) in
    let both : None ≡ Some M = sym none ∙ m_after in absurd cc)
    (cases_eq k h))
    (λ (other : j.0 ≢ l.0). inr (sym back ∙ ⊎_elim
    (λ (same : k ≡ h). ⊎_elim
    (λ (here : s ≡ n).
    let now : after k s ≡ (l, M) ∷ without_line l ((shown u).tags h n) =
    rw (eq-eqb s n here, eq-eqb k h same) (ap (λ i. put_front (shape_of (shown p)).ways l M ((shown p).tags i s)) same ∙ ap (λ i. put_front (shape_of (shown p)).ways l M ((shown p).tags h i)) here ∙ sym alone.front ∙
    ap (λ (c : ℕ). (l, M) ∷ without_line l ((shown u).tags h (l.0 % c))) alone.numbers.sets) in
    let off : eqb l.0 j.0 ≡ false = test_off l.0 j.0 (λ e. other (sym e)) in
    let skip : lookup j ((l, M) ∷ without_line l ((shown u).tags h n)) ≡ lookup j ((shown u).tags h n) = rw off (lookup-without_line_other l j ((shown u).tags h n) other) in
    ap (λ i. lookup j ((shown u).tags i s)) same ∙ ap (λ i. lookup j ((shown u).tags h i)) here ∙ sym (ap (λ (ts : List Tag). lookup j ts) now ∙ skip) ∙ m_after)
    (λ (away : s ≢ n).
    let now : after k s ≡ (shown p).tags k s = rw (test_off s n away) refl in
    ap (λ i. lookup j ((shown u).tags i s)) same ∙ ap (λ (ts : List Tag). lookup j ts) (alone.rest s away) ∙ sym (ap (λ (ts : List Tag). lookup j ts) now ∙ ap (λ i. lookup j ((shown p).tags i s)) same) ∙ m_after)
    (cases_eq s n))
    (λ (apart : k ≢ h).
    let now : after k s ≡ (shown u).tags k s = both_others (eqb s n) k s (test_off k h apart) (alone.others k s apart) in
    ap (λ (ts : List Tag). lookup j ts) (sym now) ∙ m_after)
    (cases_eq k h)))
    (cases_eq j.0 l.0)
  where
    both_others : (b : Bool) (k s : ℕ) → eqb k h ≡ false → (shown u).tags k s ≡ cond b (without_line l ((shown p).tags k s)) ((shown p).tags k s) → cond b (cond (eqb k h) (put_front (shape_of (shown p)).ways l M ((shown p).tags k s)) (without_line l ((shown p).tags k s))) ((shown p).tags k s) ≡ (shown u).tags k s
    both_others true k s off is = rw off (sym is)
    both_others false k s off is = sym is

-- a flush makes no line M
pub flushed_states : (b : BackingView) (l j : Line) (k : ℕ) → held_state (shape_of (flushed b l)) (flushed b l).tags k j ≡ Some M → held_state (shape_of b) b.tags k j ≡ Some M
flushed_states b l j k m = go (b.tags k (j.0 % b.sets)) m
  where
    clean : (state : Mesi) → cleaned_state state ≡ M → state ≡ M
    clean M is = refl
    clean E is = absurd cc
    clean S is = absurd cc

    go : (tags : List Tag) → lookup j (cleaned_line l tags) ≡ Some M → lookup j tags ≡ Some M
    go [] is = is
    go (tag ∷ tags) is =
        ⊎_elim
        (λ (on : eqb tag.0.0 l.0 ≡ true). ⊎_elim
        (λ (here : eqb tag.0.0 j.0 ≡ true). let both : Some (cleaned_state tag.1) ≡ Some M = rw (on, here) at is in let state : cleaned_state tag.1 ≡ M = cc in rw here (ap (λ s. Some s) (clean tag.1 state)))
        (λ (off : eqb tag.0.0 j.0 ≡ false). rw off (go tags (rw (on, off) at is)))
        (cases_Bool (eqb tag.0.0 j.0)))
        (λ (no : eqb tag.0.0 l.0 ≡ false). ⊎_elim
        (λ (here : eqb tag.0.0 j.0 ≡ true). let both : Some tag.1 ≡ Some M = rw (no, here) at is in rw here both)
        (λ (off : eqb tag.0.0 j.0 ≡ false). rw off (go tags (rw (no, off) at is)))
        (cases_Bool (eqb tag.0.0 j.0)))
        (cases_Bool (eqb tag.0.0 l.0))

-- a line in M stands at some way
state_place : (j : Line) (tags : List Tag) → lookup j tags ≡ Some M → (i : ℕ) × (i < length tags) × (is_m_at (slice_get tags i) ≡ true)
state_place j [] is = absurd cc
state_place j (tag ∷ tags) is =
    ⊎_elim
    (λ (here : eqb tag.0.0 j.0 ≡ true).
    let both : Some tag.1 ≡ Some M = rw here at is in
    let state : tag.1 ≡ M = cc in
    (0, omega arith, ap is_modified state))
    (λ (off : eqb tag.0.0 j.0 ≡ false).
    let found = state_place j tags (rw off at is) in (suc found.0, omega arith, found.2))
    (cases_Bool (eqb tag.0.0 j.0))

pub none_modified : (j : Line) (tags : List Tag) (ways : ℕ) → length tags ≤ ways → IsCleanFrom tags 0 ways → lookup j tags ≢ Some M
none_modified j tags ways short clean is =
    let found = state_place j tags is in
    let below = found.1 in
    let both : true ≡ false = sym found.2 ∙ clean found.0 (omega arith) (omega arith) in
    absurd cc

-- a mark of a set in which no line is in M is taken away
pub marked_less : (p : Parts) (h mark : ℕ) (l : Line) (marks : List Bool) → AreParts p → mark ≡ h * p.sets + l.0 % p.sets → IsCleanFrom ((shown p).tags h (l.0 % p.sets)) 0 p.ways → AreMarked (shown p) marks → AreMarked (shown p) (set marks mark false)
marked_less p h mark l marks are at clean is =
    let low : l.0 % p.sets < p.sets = mod_below l.0 p.sets are.some_sets in
    let short = (coherent p are).backing.short h (l.0 % p.sets) in
    record {
      count = length-set marks mark false ∙ is.count;
      marked = λ j k m. ⊎_elim
          (λ (here : k * p.sets + j.0 % p.sets ≡ mark).
          let low_j : j.0 % p.sets < p.sets = mod_below j.0 p.sets are.some_sets in
          let same : k * p.sets + j.0 % p.sets ≡ h * p.sets + l.0 % p.sets = here ∙ at in
          let holder : k ≡ h = sym (div-mul-add k p.sets (j.0 % p.sets) low_j) ∙ ap (λ x. x / p.sets) same ∙ div-mul-add h p.sets (l.0 % p.sets) low in
          let set_is : j.0 % p.sets ≡ l.0 % p.sets = sym (mod-mul-add k p.sets (j.0 % p.sets) low_j) ∙ ap (λ x. x % p.sets) same ∙ mod-mul-add h p.sets (l.0 % p.sets) low in
          absurd (none_modified j ((shown p).tags h (l.0 % p.sets)) p.ways short clean
          (ap (λ i. lookup j ((shown p).tags h i)) (sym set_is) ∙ ap (λ i. lookup j ((shown p).tags i (j.0 % p.sets))) (sym holder) ∙ m)))
          (λ (apart : k * p.sets + j.0 % p.sets ≢ mark). get_or-set_other marks mark (k * p.sets + j.0 % p.sets) false false apart ∙ is.marked j k m)
          (cases_eq (k * p.sets + j.0 % p.sets) mark);
    }

-- a line that was in M already
pub marked_still : (a b : BackingView) (h : ℕ) (l : Line) (marks : List Bool) → HasSameNumbers a b → ((j : Line) (k : ℕ) → held_state (shape_of b) b.tags k j ≡ Some M → ((j.0 ≡ l.0) × (k ≡ h)) ⊎ (held_state (shape_of a) a.tags k j ≡ Some M)) → held_state (shape_of a) a.tags h l ≡ Some M → AreMarked a marks → AreMarked b marks
marked_still a b h l marks same from was is =
    marked_same a b marks same
    (λ j k m. ⊎_elim
    (λ (this : (j.0 ≡ l.0) × (k ≡ h)). ap (λ i. held_state (shape_of a) a.tags k i) (line_by_number j l this.0) ∙ ap (λ i. held_state (shape_of a) a.tags i l) this.1 ∙ was)
    (λ earlier. earlier)
    (from j k m)) is

pub numbers_between : (a b c : BackingView) → HasSameNumbers a b → HasSameNumbers a c → HasSameNumbers b c
numbers_between a b c first second = record {
  line_bytes = second.line_bytes ∙ sym first.line_bytes;
  base = second.base ∙ sym first.base;
  holders = second.holders ∙ sym first.holders;
  sets = second.sets ∙ sym first.sets;
  ways = second.ways ∙ sym first.ways;
  size = second.size ∙ sym first.size;
}

-- a store by a holder that was alone marks the line's set
pub marked_stored : (p u t : Parts) (h mark addr : ℕ) (l : Line) (view : List ℕ) (marks : List Bool) → 0 < u.sets → h < length u.caches → l ≡ line_at (shown p).line_bytes addr → IsAlone h l p u → StepsTo (after_store (shape_of (shown p)) (shown p).tags h (line_at (shown p).line_bytes addr)) view (shown p) (shown t)
    → mark ≡ h * u.sets + l.0 % u.sets → AreMarked (shown u) marks → AreMarked (shown t) (set marks mark true)
marked_stored p u t h mark addr l view marks some inside line alone steps at is =
    let steps_l : StepsTo (after_store (shape_of (shown p)) (shown p).tags h l) view (shown p) (shown t) = subst (λ (b : Line). StepsTo (after_store (shape_of (shown p)) (shown p).tags h b) view (shown p) (shown t)) (sym line) steps in
    subst (λ (m : ℕ). AreMarked (shown t) (set marks m true)) (sym at)
    (marked_more (shown u) (shown t) h l marks (numbers_between (shown p) (shown u) (shown t) alone.numbers steps.numbers) some inside (stored_states p u t h l view alone steps_l) is)

pub marked_flushed : (b : BackingView) (l : Line) (marks : List Bool) → AreMarked b marks → AreMarked (flushed b l) marks
marked_flushed b l marks is = marked_same b (flushed b l) marks (record { line_bytes = refl; base = refl; holders = refl; sets = refl; ways = refl; size = refl }) (flushed_states b l) is

-- no set of a new memory needs a mark
pub marked_new : (b : BackingView) (marks : List Bool) → ((h s : ℕ) → b.tags h s ≡ []) → length marks ≡ b.holders * b.sets → AreMarked b marks
marked_new b marks none count = record {
  count = count;
  marked = λ l h m. let both : None ≡ Some M = sym (ap (λ (ts : List Tag). lookup l ts) (none h (l.0 % b.sets))) ∙ m in absurd cc;
}

pub none_given : {A : Type 0} (o : Option A) (P : Type 0) (Q : A → Type 0) → is_some o ≡ false → MatchOption o P Q → P
none_given None P Q none is = is
none_given (Some x) P Q none is = absurd cc

-- the same marks, where memory's own bytes are others
pub marked_mixed : (p : Parts) (memory : Memory) (marks : List Bool) → AreMarked (shown p) marks → AreMarked (shown (with_memory p memory)) marks
marked_mixed p memory marks is = record { count = is.count; marked = is.marked }
