-- A flush and a merge leave the copies that follow from tags and view, and so do two steps one after another.
use Rattle.std.proofs.Common.{◌≡◌, ◌≢◌, ℕ, ◌%◌, ◌-◌, ◌*◌, ⊎_elim, Bool, true, false, ◌&&◌, List, [], ◌∷◌, Option, Some, None, length, take, eqb, cond, sym, ap, subst, ◌∙◌, refl, arith, drop}
use Rattle.std.proofs.lemmas.List.{length-drop, length-take-le}
use Rattle.std.proofs.lemmas.Bool.{cases_Bool, cases_eq, eqb-true}
use Rattle.set_assoc.specs.Entries.{lookup}
use Rattle.conda_base.specs.Lines.{IsLineOf}
use Rattle.conda_base.specs.declared.Line.{Line}
use Rattle.conda_base.specs.declared.Mesi.{Mesi}
use Rattle.conda_base.specs.declared.Mesi.TheVariants.{M, E, S}
use Rattle.conda_base.proofs.LineLemmas.{line_bytes_in_memory, line_size_bounds, line_by_number}
use Rattle.conda_base.proofs.MarkLemmas.{length-mixed}
use Rattle.line_memory.specs.Memory.{IsMemory}
use Rattle.line_memory.specs.Tags.{Tag, Tags, cleaned_state, cleaned_line, some_below, held_state, is_in_m}
use Rattle.line_memory.specs.Backing.{BackingView, HasSameNumbers, IsBacking, IsDirty, IsInRange, copy_of, view_of, committed_line, flushed, merged, shape_of}
use Rattle.line_memory.proofs.BelowLemmas.{none_found, some_found, some_same}
use Rattle.line_memory.proofs.MemberLemmas.{state_of_dirty}
use Rattle.line_memory.proofs.MemoryLemmas.{bytes_of_line-in, bytes_of_line-with_line, bytes_of_line-with_line_other, length-with_line}
use Rattle.line_memory.specs.Access.{after_flush, after_merge}
use Rattle.line_memory.specs.Copies.{has_same_owner}
use Rattle.coherent_mem.specs.Steps.{StepsTo}
use Rattle.coherent_mem.proofs.DirtyFacts.{copy_next, follows, is_dirty}
use Rattle.coherent_mem.proofs.AloneFacts.{lookup-without_line}
use Rattle.coherent_mem.proofs.CacheFacts.{test_off}
use Rattle.coherent_mem.proofs.MarkFacts.{lookup-without_line_other}

and_same : (b : Bool) → (b && b) ≡ b
and_same true = refl
and_same false = refl

-- a line that isn't dirty by the test isn't dirty
pub clean_by_test : (b : BackingView) (l : Line) → IsBacking b → is_dirty (shape_of b) b.tags l ≡ false → IsDirty b l → ⊥
clean_by_test b l is off dirty =
    let found = state_of_dirty b l is dirty in
    let on : is_dirty (shape_of b) b.tags l ≡ true = some_found b.holders found.0 (λ h. is_in_m (held_state (shape_of b) b.tags h l)) found.1 (ap is_in_m found.2) in
    let both : true ≡ false = sym on ∙ off in cc

-- a change that leaves one line in nobody's M, memory with users' bytes of it, and every other line as it was
pub one_line : (a b : BackingView) (after : Tags) (bytes : List ℕ) (l : Line) → IsBacking a → IsBacking b → HasSameNumbers a b → b.tags ≡ after → b.view ≡ bytes
    → ((k : ℕ) → held_state (shape_of a) after k l ≢ Some M) → copy_of b l ≡ view_of b l
    → ((j : Line) (k : ℕ) → j.0 ≢ l.0 → held_state (shape_of a) after k j ≡ held_state (shape_of a) a.tags k j)
    → ((j : Line) → IsInRange a j → j.0 ≢ l.0 → (copy_of b j ≡ copy_of a j) × (view_of b j ≡ view_of a j)) → StepsTo after bytes a b
one_line a b after bytes l is is_new numbers tags view none here states others = record {
  numbers = numbers;
  tags = tags;
  view = view;
  copies = λ j there. follows a b j is_new (⊎_elim
      (λ (same : j.0 ≡ l.0).
      let off : is_dirty (shape_of b) b.tags l ≡ false =
      none_found b.holders (λ h. is_in_m (held_state (shape_of b) b.tags h l)) (λ k below. not_in_m _ (λ m. none k (sym (state_b l k) ∙ m))) in
      let at_l : copy_of b l ≡ copy_next a b l = rw off here in
      subst (λ (i : Line). copy_of b i ≡ copy_next a b i) (sym (line_by_number j l same)) at_l)
      (λ (apart : j.0 ≢ l.0).
      let told = others j there apart in
      let state : (k : ℕ) → held_state (shape_of b) b.tags k j ≡ held_state (shape_of a) a.tags k j = λ k. state_b j k ∙ states j k apart in
      let dirty_same : is_dirty (shape_of b) b.tags j ≡ is_dirty (shape_of a) a.tags j =
      some_same b.holders (λ h. is_in_m (held_state (shape_of b) b.tags h j)) (λ h. is_in_m (held_state (shape_of a) a.tags h j)) (λ h. ap is_in_m (state h)) ∙
      ap (λ (n : ℕ). some_below n (λ h. is_in_m (held_state (shape_of a) a.tags h j))) numbers.holders in
      let stays_same : has_same_owner (shape_of b) a.tags b.tags j ≡ is_dirty (shape_of a) a.tags j =
      some_same b.holders (λ h. is_in_m (held_state (shape_of b) a.tags h j) && is_in_m (held_state (shape_of b) b.tags h j)) (λ h. is_in_m (held_state (shape_of a) a.tags h j))
      (λ h. ap (λ (n : ℕ). is_in_m (lookup j (a.tags h (j.0 % n))) && is_in_m (held_state (shape_of b) b.tags h j)) numbers.sets ∙
      ap (λ o. is_in_m (held_state (shape_of a) a.tags h j) && is_in_m o) (state h) ∙ and_same (is_in_m (held_state (shape_of a) a.tags h j))) ∙
      ap (λ (n : ℕ). some_below n (λ h. is_in_m (held_state (shape_of a) a.tags h j))) numbers.holders in
      told.0 ∙ ⊎_elim
      (λ (on : is_dirty (shape_of a) a.tags j ≡ true). rw (dirty_same ∙ on, stays_same ∙ on) refl)
      (λ (off : is_dirty (shape_of a) a.tags j ≡ false). rw (dirty_same ∙ off) (is.clean j there (clean_by_test a j is off) ∙ sym told.1))
      (cases_Bool (is_dirty (shape_of a) a.tags j)))
      (cases_eq j.0 l.0));
}
  where
    not_in_m : (o : Option Mesi) → o ≢ Some M → is_in_m o ≡ false
    not_in_m None apart = refl
    not_in_m (Some M) apart = absurd (apart refl)
    not_in_m (Some E) apart = refl
    not_in_m (Some S) apart = refl

    state_b : (j : Line) (k : ℕ) → held_state (shape_of b) b.tags k j ≡ held_state (shape_of a) after k j
    state_b j k = ap (λ (n : ℕ). lookup j (b.tags k (j.0 % n))) numbers.sets ∙ ap (λ (t : Tags). lookup j (t k (j.0 % a.sets))) tags

never_m : (l : Line) (tags : List Tag) → lookup l (cleaned_line l tags) ≢ Some M
never_m l [] is = cc
never_m l (tag ∷ tags) is =
    ⊎_elim
    (λ (on : eqb tag.0.0 l.0 ≡ true). let both : Some (cleaned_state tag.1) ≡ Some M = rw (on, on) at is in let state : cleaned_state tag.1 ≡ M = cc in never tag.1 state)
    (λ (off : eqb tag.0.0 l.0 ≡ false). never_m l tags (rw (off, off) at is))
    (cases_Bool (eqb tag.0.0 l.0))
  where
    never : (m : Mesi) → cleaned_state m ≢ M
    never M is = cc
    never E is = cc
    never S is = cc

lookup-cleaned_other : (l j : Line) (tags : List Tag) → j.0 ≢ l.0 → lookup j (cleaned_line l tags) ≡ lookup j tags
lookup-cleaned_other l j [] apart = refl
lookup-cleaned_other l j (tag ∷ tags) apart =
    ⊎_elim
    (λ (on : eqb tag.0.0 l.0 ≡ true).
    let off : eqb tag.0.0 j.0 ≡ false = test_off tag.0.0 j.0 (λ same. apart (sym same ∙ eqb-true _ _ on)) in
    rw (on, off) (lookup-cleaned_other l j tags apart))
    (λ (no : eqb tag.0.0 l.0 ≡ false). rw no (ap (λ rest. cond (eqb tag.0.0 j.0) (Some tag.1) rest) (lookup-cleaned_other l j tags apart)))
    (cases_Bool (eqb tag.0.0 l.0))

-- the bytes of a line of users' view
length_view_of : (b : BackingView) (l : Line) → IsBacking b → IsInRange b l → length (view_of b l) ≡ b.line_bytes
length_view_of b l is there =
    let span = line_bytes_in_memory b.base (length b.view) b.line_bytes l.0 is.memory.size is.memory.whole_base is.memory.whole_bytes there in
    ap length (bytes_of_line-in b.base b.line_bytes l.0 b.view span.0) ∙
    length-take-le b.line_bytes (drop (l.0 * b.line_bytes - b.base) b.view) (omega (arith, length-drop (l.0 * b.line_bytes - b.base) b.view))

-- memory's own bytes are as long as users' view
own_memory : (b : BackingView) → IsBacking b → IsMemory b.line_bytes b.base (length b.copies)
own_memory b is = subst (λ (n : ℕ). IsMemory b.line_bytes b.base n) (sym is.same) is.memory

own_range : (b : BackingView) (l : Line) → IsBacking b → IsInRange b l → IsLineOf b.base (length b.copies) b.line_bytes l.0
own_range b l is there = subst (λ (n : ℕ). IsLineOf b.base n b.line_bytes l.0) (sym is.same) there

pub flushed_steps : (b : BackingView) (l : Line) → IsBacking b → IsBacking (flushed b l) → IsInRange b l → StepsTo (after_flush b.tags l) b.view b (flushed b l)
flushed_steps b l is is_new there =
    let long = length_view_of b l is there in
    one_line b (flushed b l) (after_flush b.tags l) b.view l is is_new
    (record { line_bytes = refl; base = refl; holders = refl; sets = refl; ways = refl; size = refl }) refl refl
    (λ k. never_m l (b.tags k (l.0 % b.sets)))
    (bytes_of_line-with_line b.base b.line_bytes l.0 b.copies (view_of b l) (own_memory b is) (own_range b l is there) long)
    (λ j k apart. lookup-cleaned_other l j (b.tags k (j.0 % b.sets)) apart)
    (λ j within apart. (bytes_of_line-with_line_other b.base b.line_bytes j.0 l.0 b.copies (view_of b l) (own_memory b is) (own_range b j is within) (own_range b l is there) long apart, refl))

pub merged_steps : (b : BackingView) (l : Line) (bytes : List ℕ) (mask : ℕ) → IsBacking b → IsBacking (merged b l bytes mask) → IsInRange b l → length bytes ≡ 128 → StepsTo (after_merge b.tags l) (merged b l bytes mask).view b (merged b l bytes mask)
merged_steps b l bytes mask is is_new there full =
    let bounds = line_size_bounds b.line_bytes is.memory.size in
    let new : List ℕ = committed_line b l bytes mask in
    let long : length new ≡ b.line_bytes = length-mixed mask (take b.line_bytes bytes) (view_of b l) ∙ length-take-le b.line_bytes bytes (omega arith) in
    let span = line_bytes_in_memory b.base (length b.view) b.line_bytes l.0 is.memory.size is.memory.whole_base is.memory.whole_bytes there in
    one_line b (merged b l bytes mask) (after_merge b.tags l) (merged b l bytes mask).view l is is_new
    (record { line_bytes = refl; base = refl; holders = refl; sets = refl; ways = refl; size = length-with_line b.base b.line_bytes l.0 b.view new (omega arith) long }) refl refl
    (λ k m. let both : None ≡ Some M = sym (lookup-without_line l (b.tags k (l.0 % b.sets))) ∙ m in cc)
    (bytes_of_line-with_line b.base b.line_bytes l.0 b.copies new (own_memory b is) (own_range b l is there) long ∙
    sym (bytes_of_line-with_line b.base b.line_bytes l.0 b.view new is.memory there long))
    (λ j k apart. lookup-without_line_other l j (b.tags k (j.0 % b.sets)) apart)
    (λ j within apart. (
      bytes_of_line-with_line_other b.base b.line_bytes j.0 l.0 b.copies new (own_memory b is) (own_range b j is within) (own_range b l is there) long apart,
      bytes_of_line-with_line_other b.base b.line_bytes j.0 l.0 b.view new is.memory within there long apart,
    ))
