-- Holders of a line lose it, one after another.
use Rattle.std.specs.Option.{IsSome, is_some}
use Rattle.std.proofs.Common.{◌≡◌, ◌≢◌, ℕ, suc, ◌%◌, ◌+◌, ◌-◌, ◌*◌, ◌<◌, ◌≤◌, ◌⊎◌, ⊎_elim, true, false, List, [], ◌++◌, Option, Some, None, length, take, drop, sym, ap, subst, ◌∙◌, refl, arith, Bool, not, ◌&&◌, cond, eqb, ltb, rules}
use Rattle.std.proofs.lemmas.List.{append-nil, places, same_lists}
use Rattle.std.proofs.lemmas.Bool.{cases_eq, cases_lt, eq-eqb, lt-ltb, le-ltb}
use Rattle.std.proofs.Math.Numerals.{add-one}
use Rattle.set_assoc.specs.Entries.{lookup}
use Rattle.conda_base.specs.declared.Line.{Line}
use Rattle.conda_base.specs.declared.Mesi.{Mesi}
use Rattle.conda_base.specs.declared.Mesi.TheVariants.{M, E, S}
use Rattle.conda_base.proofs.LineLemmas.{line_bytes_in_memory}
use Rattle.traffic_trace.specs.Notes.{noted, Trace}
use Rattle.traffic_trace.specs.declared.note.Note.{Note}
use Rattle.traffic_trace.specs.declared.note.Kind.TheVariants.{Drop}
use Rattle.line_memory.specs.Notes.{note_of, back_notes, leave_notes, all_noted}
use Rattle.line_memory.specs.Memory.{IsIn, with_line}
use Rattle.line_memory.specs.Tags.{Tag, without_line, held_state}
use Rattle.line_memory.specs.Backing.{view_of, HasSameNumbers, shape_of}
use Rattle.coherent_mem.specs.Moves.{IsMoved, list_at, flushed_copies, IsDropped, dropped_notes, own_with, relisted}
use Rattle.coherent_mem.specs.Parts.{Parts, AreParts, shown}
use Rattle.coherent_mem.proofs.CacheFacts.{test_off}
use Rattle.coherent_mem.proofs.ViewFacts.{view_of_shown, length_seen}
use Rattle.coherent_mem.proofs.CopyFacts.{numbers_twice, quiet_twice, noted_twice}
use Rattle.coherent_mem.proofs.MissFacts.{without_line-none}

pub and_false : (b : Bool) → (b && false) ≡ false
and_false true = refl
and_false false = refl

-- the next holder is past those that have been asked
list_yet : (p q : Parts) (h k : ℕ) (l : Line) → IsDropped h l k p q → list_at (shown q) k l ≡ list_at (shown p) k l
list_yet p q h k l is =
    let n : ℕ = l.0 % p.sets in
    ap (λ (m : ℕ). (shown q).tags k (l.0 % m)) is.numbers.sets ∙ is.tags k n ∙ rw (le-ltb k k (omega arith)) (rw (and_false (eqb n n)) refl)

pub state_yet : (p q : Parts) (h k : ℕ) (l : Line) → IsDropped h l k p q → held_state (shape_of (shown q)) (shown q).tags k l ≡ held_state (shape_of (shown p)) (shown p).tags k l
state_yet p q h k l is = ap (λ (ts : List Tag). lookup l ts) (list_yet p q h k l is)

-- the test for one holder more
test_more : (j k : ℕ) → j ≢ k → ltb j (suc k) ≡ ltb j k
test_more j k apart = ⊎_elim
    (λ (below : j < k). lt-ltb j (suc k) (omega arith) ∙ sym (lt-ltb j k below))
    (λ (past : k ≤ j). le-ltb j (suc k) (omega arith) ∙ sym (le-ltb j k past)) (cases_lt j k)

-- bytes that are put into a line twice
pub with_line_twice : (base n l : ℕ) (bytes first second : List ℕ) → l * n - base + n ≤ length bytes → length first ≡ n → with_line base n (with_line base n bytes l first) l second ≡ with_line base n bytes l second
with_line_twice base n l bytes first second within long = twice (l * n - base) n bytes first second within long
  where
    twice : (s n : ℕ) (bytes first second : List ℕ) → s + n ≤ length bytes → length first ≡ n
        → take s (take s bytes ++ first ++ drop (s + n) bytes) ++ second ++ drop (s + n) (take s bytes ++ first ++ drop (s + n) bytes) ≡ take s bytes ++ second ++ drop (s + n) bytes
    twice s n bytes first second within long =
        let front : take s (take s bytes ++ first ++ drop (s + n) bytes) ≡ take s bytes = same_lists _ _ (search (rules, places)) (λ k d below. grind (arith, places)) in
        let back : drop (s + n) (take s bytes ++ first ++ drop (s + n) bytes) ≡ drop (s + n) bytes = same_lists _ _ (search (rules, places)) (λ k d below. grind (arith, places)) in
        ap (λ xs. xs ++ second ++ drop (s + n) (take s bytes ++ first ++ drop (s + n) bytes)) front ∙ ap (λ xs. take s bytes ++ second ++ xs) back

-- a line was written back: but for it memory's own bytes stay
pub own_written : (p q : Parts) (l : Line) → AreParts p → IsIn p.memory l → HasSameNumbers (shown p) (shown q) → (shown q).copies ≡ flushed_copies (shown p) l → (bytes : List ℕ) → own_with (shown q) l bytes ≡ own_with (shown p) l bytes
own_written p q l are there same copies bytes =
    let m = p.memory in
    let span = line_bytes_in_memory m.base (length m.bytes) m.line_bytes l.0 are.memory.size are.memory.whole_base are.memory.whole_bytes there in
    let long : length (view_of (shown p) l) ≡ m.line_bytes = ap (λ (b : List ℕ). length b) (view_of_shown p are l there) ∙ length_seen p are l there in
    ap (λ (b : ℕ). with_line b q.memory.line_bytes q.memory.bytes l.0 bytes) same.base ∙
    ap (λ (n : ℕ). with_line m.base n q.memory.bytes l.0 bytes) same.line_bytes ∙
    ap (λ (own : List ℕ). with_line m.base m.line_bytes own l.0 bytes) copies ∙
    with_line_twice m.base m.line_bytes l.0 m.bytes (view_of (shown p) l) bytes (omega arith) long

pub dropped_more : (p q r : Parts) (h k : ℕ) (l : Line) → IsDropped h l k p q → IsIn q.memory l → k ≢ h → IsMoved (without_line l (list_at (shown q) k l)) (flushed_copies (shown q) l) k l q r → IsDropped h l (suc k) p r
dropped_more p q r h k l so_far there apart is =
    let n : ℕ = l.0 % p.sets in
    record {
      numbers = numbers_twice (shown p) (shown q) (shown r) so_far.numbers is.edits.numbers;
      view = is.edits.view ∙ so_far.view;
      tags = λ j s.
          is.edits.tags j s ∙
          ap (λ (m : ℕ). relisted (shown q).tags k (l.0 % m) (without_line l (list_at (shown q) k l)) j s) so_far.numbers.sets ∙
          ap (λ (ts : List Tag). relisted (shown q).tags k n (without_line l ts) j s) (list_yet p q h k l so_far) ∙
          ⊎_elim
          (λ (here : s ≡ n). rw (eq-eqb s n here) (⊎_elim
          (λ (same : j ≡ k).
          let inside : ltb j (suc k) ≡ true = lt-ltb j (suc k) (omega arith) in
          let other : eqb j h ≡ false = test_off j h (λ at. apart (sym same ∙ at)) in
          rw (eq-eqb j k same, inside, other) (ap (λ i. without_line l ((shown p).tags i n)) (sym same) ∙ ap (λ i. without_line l ((shown p).tags j i)) (sym here)))
          (λ (off : j ≢ k). rw (test_off j k off, test_more j k off) (so_far.tags j s ∙ rw (eq-eqb s n here) refl))
          (cases_eq j k)))
          (λ (other : s ≢ n). rw (test_off s n other) (so_far.tags j s ∙ rw (test_off s n other) refl))
          (cases_eq s n);
      own = λ bytes. own_written q r l so_far.are there is.edits.numbers is.edits.copies bytes ∙ so_far.own bytes;
      quiet = quiet_twice (shown p) (shown q) (shown r) so_far.quiet is.quiet;
      are = is.are;
    }

-- a holder that keeps its list
pub dropped_skip : (p q : Parts) (h k : ℕ) (l : Line) → IsDropped h l k p q → (k ≡ h) ⊎ (held_state (shape_of (shown q)) (shown q).tags k l ≡ None) → IsDropped h l (suc k) p q
dropped_skip p q h k l so_far why =
    let n : ℕ = l.0 % p.sets in
    record {
      numbers = so_far.numbers;
      view = so_far.view;
      tags = λ j s. so_far.tags j s ∙ ⊎_elim
          (λ (here : s ≡ n). rw (eq-eqb s n here) (⊎_elim
          (λ (same : j ≡ k).
          let inside : ltb j (suc k) ≡ true = lt-ltb j (suc k) (omega arith) in
          let past : ltb j k ≡ false = le-ltb j k (omega arith) in
          rw (inside, past) (⊎_elim
          (λ (is_h : k ≡ h). rw (eq-eqb j h (same ∙ is_h)) refl)
          (λ (none : held_state (shape_of (shown q)) (shown q).tags k l ≡ None).
          let list_none : lookup l ((shown p).tags k n) ≡ None = sym (state_yet p q h k l so_far) ∙ none in
          let gone : without_line l ((shown p).tags j s) ≡ (shown p).tags j s =
          ap (λ i. without_line l ((shown p).tags i s)) same ∙ ap (λ i. without_line l ((shown p).tags k i)) here ∙
          without_line-none l ((shown p).tags k n) list_none ∙ ap (λ i. (shown p).tags k i) (sym here) ∙ ap (λ i. (shown p).tags i s) (sym same) in
          either (eqb j h) (without_line l ((shown p).tags j s)) ((shown p).tags j s) gone)
          why))
          (λ (off : j ≢ k). rw (test_more j k off) refl)
          (cases_eq j k)))
          (λ (other : s ≢ n). rw (test_off s n other) refl)
          (cases_eq s n);
      own = so_far.own;
      quiet = so_far.quiet;
      are = so_far.are;
    }
  where
    either : (b : Bool) (x y : List Tag) → x ≡ y → y ≡ cond (not b) x y
    either true x y same = refl
    either false x y same = sym same

-- a holder that has a line writes it back and drops it
drop_noted : (trace : Trace) (l : Line) (k : ℕ) (o : Option Mesi) → IsSome o → noted (all_noted trace (back_notes l k o)) (note_of Drop k l) ≡ all_noted trace (leave_notes l k o)
drop_noted trace l k None is = absurd cc
drop_noted trace l k (Some M) is = refl
drop_noted trace l k (Some E) is = refl
drop_noted trace l k (Some S) is = refl

-- the notes of one holder more
pub noted_more : (p q : Parts) (h k : ℕ) (l : Line) (start before after : Trace) → IsDropped h l k p q → k ≢ h → IsSome (held_state (shape_of (shown q)) (shown q).tags k l) → before ≡ all_noted start (dropped_notes (shown p) h l k)
    → after ≡ noted (all_noted before (back_notes l k (held_state (shape_of (shown q)) (shown q).tags k l))) (note_of Drop k l) → after ≡ all_noted start (dropped_notes (shown p) h l (suc k))
noted_more p q h k l start before after so_far apart some first second =
    second ∙ drop_noted before l k (held_state (shape_of (shown q)) (shown q).tags k l) some ∙
    ap (λ o. all_noted before (leave_notes l k o)) (state_yet p q h k l so_far) ∙
    ap (λ t. all_noted t (leave_notes l k (held_state (shape_of (shown p)) (shown p).tags k l))) first ∙
    sym (noted_twice start (dropped_notes (shown p) h l k) (leave_notes l k (held_state (shape_of (shown p)) (shown p).tags k l))) ∙
    rw (test_off k h apart) refl

pub noted_skip : (p q : Parts) (h k : ℕ) (l : Line) (start before : Trace) → IsDropped h l k p q → (k ≡ h) ⊎ (held_state (shape_of (shown q)) (shown q).tags k l ≡ None) → before ≡ all_noted start (dropped_notes (shown p) h l k) → before ≡ all_noted start (dropped_notes (shown p) h l (suc k))
noted_skip p q h k l start before so_far why first =
    let same : dropped_notes (shown p) h l (suc k) ≡ dropped_notes (shown p) h l k = ⊎_elim
    (λ (is_h : k ≡ h). rw (eq-eqb k h is_h) (append-nil (dropped_notes (shown p) h l k)))
    (λ (none : held_state (shape_of (shown q)) (shown q).tags k l ≡ None).
    let was : held_state (shape_of (shown p)) (shown p).tags k l ≡ None = sym (state_yet p q h k l so_far) ∙ none in
    rw was (both (eqb k h) (dropped_notes (shown p) h l k)))
    why in
    first ∙ ap (λ (ns : List Note). all_noted start ns) (sym same)
  where
    both : (b : Bool) (notes : List Note) → notes ++ cond b [] [] ≡ notes
    both true notes = append-nil notes
    both false notes = append-nil notes

-- what the invariant of the loop says, at the next number
pub at_next : (P : ℕ → Type 0) (k : ℕ) → P (suc k) → P (k + 1)
at_next P k is = subst P (sym (add-one k)) is

-- a step of the loop: what holds at the next number
pub record IsNext (p q : Parts) (h k : ℕ) (l : Line) (start after : Trace) : Type 0 where
  pub dropped : IsDropped h l (k + 1) p q
  pub notes : after ≡ all_noted start (dropped_notes (shown p) h l (k + 1))

pub next_more : (p q r s : Parts) (h k : ℕ) (l : Line) (start before after end : Trace) → IsDropped h l k p q → IsIn q.memory l → before ≡ all_noted start (dropped_notes (shown p) h l k) → k ≢ h
    → IsMoved (without_line l (list_at (shown q) k l)) (flushed_copies (shown q) l) k l q r → IsSome (held_state (shape_of (shown q)) (shown q).tags k l)
    → after ≡ noted (all_noted before (back_notes l k (held_state (shape_of (shown q)) (shown q).tags k l))) (note_of Drop k l) → s ≡ r → end ≡ after → IsNext p s h k l start end
next_more p q r s h k l start before after end so_far there noted_so_far apart is some told same same_end = record {
  dropped = at_next (λ n. IsDropped h l n p s) k (subst (λ (x : Parts). IsDropped h l (suc k) p x) (sym same) (dropped_more p q r h k l so_far there apart is));
  notes = at_next (λ n. end ≡ all_noted start (dropped_notes (shown p) h l n)) k (same_end ∙ noted_more p q h k l start before after so_far apart some noted_so_far told);
}

pub next_skip : (p q s : Parts) (h k : ℕ) (l : Line) (start before end : Trace) → IsDropped h l k p q → before ≡ all_noted start (dropped_notes (shown p) h l k) → (k ≡ h) ⊎ (held_state (shape_of (shown q)) (shown q).tags k l ≡ None) → s ≡ q → end ≡ before → IsNext p s h k l start end
next_skip p q s h k l start before end so_far noted_so_far why same same_end = record {
  dropped = at_next (λ n. IsDropped h l n p s) k (subst (λ (x : Parts). IsDropped h l (suc k) p x) (sym same) (dropped_skip p q h k l so_far why));
  notes = at_next (λ n. end ≡ all_noted start (dropped_notes (shown p) h l n)) k (same_end ∙ noted_skip p q h k l start before so_far why noted_so_far);
}

pub state_by_test : (o : Option Mesi) (b : Bool) → b ≡ is_some o → b ≡ false → o ≡ None
state_by_test None b is off = refl
state_by_test (Some m) b is off = let both : true ≡ false = sym is ∙ off in absurd cc

pub some_by_test : (o : Option Mesi) (b : Bool) → b ≡ is_some o → b ≡ true → IsSome o
some_by_test None b is on = let both : true ≡ false = sym on ∙ is in absurd cc
some_by_test (Some m) b is on = refl
