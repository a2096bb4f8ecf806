-- A store of the holder that has just stored to a line, or taken it, changes no tags and notes nothing.
use Rattle.std.proofs.Common.{◌≡◌, ◌≢◌, ℕ, zero, suc, ◌<◌, ⊎_elim, Bool, true, false, ◌&&◌, List, [], ◌∷◌, Option, Some, None, length, take, eqb, sym, ap, subst, ◌∙◌, refl, arith}
use Rattle.std.proofs.Math.Path.{fun_ext}
use Rattle.std.proofs.lemmas.Bool.{cases_Bool, cases_eq, eq-eqb}
use Rattle.set_assoc.specs.Entries.{lookup}
use Rattle.conda_base.specs.LineLists.{names, line_at}
use Rattle.conda_base.specs.Lines.{IsLineOf, line_number}
use Rattle.conda_base.specs.declared.Line.{Line}
use Rattle.conda_base.specs.declared.Mesi.{Mesi}
use Rattle.conda_base.specs.declared.Mesi.TheVariants.{M}
use Rattle.line_memory.specs.Tags.{dirty_lines, Tag, Tags, without_line, Shape, set_number, some_below, held_state, is_in_m}
use Rattle.line_memory.specs.Backing.{dirty_in, HasSameNumbers, IsBacking, BackingView, IsInRange, shape_of}
use Rattle.line_memory.specs.Access.{put_front, after_store}
use Rattle.line_memory.specs.Notes.{access_notes, store_notes}
use Rattle.line_memory.specs.Copies.{has_same_owner}
use Rattle.coherent_mem.specs.Again.{IsAtomic, IsStoredAgain}
use Rattle.coherent_mem.specs.Steps.{StepsTo}
use Rattle.coherent_mem.proofs.DirtyFacts.{dirty_named}
use Rattle.coherent_mem.proofs.AloneFacts.{lookup-without_line}
use Rattle.coherent_mem.proofs.MissFacts.{lookup-take, without_line-none}
use Rattle.coherent_mem.proofs.CacheFacts.{test_off}
use Rattle.coherent_mem.proofs.CopyFacts.{numbers_twice}

without_twice : (l : Line) (tags : List Tag) → without_line l (without_line l tags) ≡ without_line l tags
without_twice l [] = refl
without_twice l (tag ∷ tags) =
    ⊎_elim
    (λ (on : eqb tag.0.0 l.0 ≡ true). rw on (without_twice l tags))
    (λ (off : eqb tag.0.0 l.0 ≡ false). rw off (rw off (ap (λ ts. tag ∷ ts) (without_twice l tags))))
    (cases_Bool (eqb tag.0.0 l.0))

take_again : {A : Type 0} (n : ℕ) (xs : List A) → take n (take n xs) ≡ take n xs
take_again zero xs = refl
take_again (suc n) [] = refl
take_again (suc n) (x ∷ xs) = ap (λ ys. x ∷ ys) (take_again n xs)

-- a cut list without the line is without it
without_cut : (l : Line) (n : ℕ) (tags : List Tag) → take n (without_line l (take n (without_line l tags))) ≡ take n (without_line l tags)
without_cut l n tags =
    let none : lookup l (take n (without_line l tags)) ≡ None = lookup-take l n (without_line l tags) (lookup-without_line l tags) in
    ap (λ ts. take n ts) (without_line-none l (take n (without_line l tags)) none) ∙ take_again n (without_line l tags)

pub fronted_twice : (c : Shape) (l : Line) (tags : List Tag) → put_front c.ways l M (put_front c.ways l M tags) ≡ put_front c.ways l M tags
fronted_twice c l tags = go c.ways
  where
    go : (n : ℕ) → take n ((l, M) ∷ without_line l (take n ((l, M) ∷ without_line l tags))) ≡ take n ((l, M) ∷ without_line l tags)
    go zero = refl
    go (suc n) = rw (eq-eqb l.0 l.0 refl) (ap (λ ts. (l, M) ∷ ts) (without_cut l n tags))

pub stored_again : (c : Shape) (tags : Tags) (h : ℕ) (l : Line) → 0 < c.ways → IsStoredAgain c tags h l
stored_again c tags h l some = record {
  tags_stay = fun_ext (λ k. fun_ext (λ s. ⊎_elim
      (λ (here : s ≡ set_number c l). ⊎_elim
      (λ (same : k ≡ h). rw (eq-eqb s (set_number c l) here, eq-eqb k h same) (fronted_twice c l (tags k s)))
      (λ (apart : k ≢ h). rw (eq-eqb s (set_number c l) here, test_off k h apart) (without_twice l (tags k s)))
      (cases_eq k h))
      (λ (other : s ≢ set_number c l). rw (test_off s (set_number c l) other) refl)
      (cases_eq s (set_number c l))));
  no_notes =
      let list : after_store c tags h l h (set_number c l) ≡ put_front c.ways l M (tags h (set_number c l)) = rw (eq-eqb (set_number c l) (set_number c l) refl, eq-eqb h h refl) refl in
      let state : held_state c (after_store c tags h l) h l ≡ Some M = ap (λ (ts : List Tag). lookup l ts) list ∙ front c.ways (tags h (set_number c l)) some in
      ap (λ (o : Option Mesi). store_notes c (after_store c tags h l) h l o) state;
}
  where
    front : (n : ℕ) (ts : List Tag) → 0 < n → lookup l (take n ((l, M) ∷ without_line l ts)) ≡ Some M
    front zero ts is = absurd (omega arith)
    front (suc n) ts is = rw (eq-eqb l.0 l.0 refl) refl

range_same : (a b : BackingView) (l : Line) → HasSameNumbers a b → IsInRange a l → IsInRange b l
range_same a b l same there =
    let one : IsLineOf b.base (length a.view) a.line_bytes l.0 = subst (λ (n : ℕ). IsLineOf n (length a.view) a.line_bytes l.0) (sym same.base) there in
    let two : IsLineOf b.base (length b.view) a.line_bytes l.0 = subst (λ (n : ℕ). IsLineOf b.base n a.line_bytes l.0) (sym same.size) one in
    subst (λ (n : ℕ). IsLineOf b.base (length b.view) n l.0) (sym same.line_bytes) two

-- two steps, of which the second leaves the tags, are one
pub steps_twice : (a b c : BackingView) (after : Tags) (view bytes : List ℕ) → IsBacking b → StepsTo after view a b → StepsTo after bytes b c → view ≡ a.view → StepsTo after bytes a c
steps_twice a b c after view bytes is first second same_view =
    let numbers = numbers_twice a b c first.numbers second.numbers in
    let tags : c.tags ≡ b.tags = second.tags ∙ sym first.tags in
    let shape : shape_of c ≡ shape_of b = shape_same b c second.numbers in
    record {
      numbers = numbers;
      tags = second.tags;
      view = second.view;
      copies = λ l there.
          let listed : names (dirty_in c) l ≡ names (dirty_in b) l =
          ap (λ (t : Tags). names (dirty_lines (shape_of c) t) l) tags ∙ ap (λ (s : Shape). names (dirty_lines s b.tags) l) shape in
          let same : has_same_owner (shape_of c) b.tags c.tags l ≡ names (dirty_in b) l =
          ap (λ (t : Tags). has_same_owner (shape_of c) b.tags t l) tags ∙ ap (λ (s : Shape). has_same_owner s b.tags b.tags l) shape ∙
          some_both b.holders (λ h. is_in_m (held_state (shape_of b) b.tags h l)) ∙ sym (dirty_named b l is) in
          let since : has_same_owner (shape_of b) a.tags b.tags l ≡ has_same_owner (shape_of c) a.tags c.tags l =
          ap (λ (t : Tags). has_same_owner (shape_of b) a.tags t l) (sym tags) ∙ ap (λ (s : Shape). has_same_owner s a.tags c.tags l) (sym shape) in
          second.copies l (range_same a b l first.numbers there) ∙ ⊎_elim
          (λ (on : names (dirty_in b) l ≡ true). rw (listed ∙ on, same ∙ on) (first.copies l there ∙ rw on (rw since refl)))
          (λ (off : names (dirty_in b) l ≡ false). rw (listed ∙ off) refl)
          (cases_Bool (names (dirty_in b) l));
    }
  where
    shape_same : (x y : BackingView) → HasSameNumbers x y → shape_of y ≡ shape_of x
    shape_same x y same =
        ap (λ (n : ℕ). record { holders = n; sets = y.sets; ways = y.ways }) same.holders ∙
        ap (λ (n : ℕ). record { holders = x.holders; sets = n; ways = y.ways }) same.sets ∙
        ap (λ (n : ℕ). record { holders = x.holders; sets = x.sets; ways = n }) same.ways

    some_both : (n : ℕ) (test : ℕ → Bool) → some_below n (λ h. test h && test h) ≡ some_below n test
    some_both n test = ap (λ (t : ℕ → Bool). some_below n t) (fun_ext (λ h. both (test h)))
      where
        both : (x : Bool) → (x && x) ≡ x
        both true = refl
        both false = refl

pub atomic : (old mid new : BackingView) (h addr : ℕ) (bytes : List ℕ) → IsBacking mid → StepsTo (after_store (shape_of old) old.tags h (line_at old.line_bytes addr)) old.view old mid → StepsTo (after_store (shape_of mid) mid.tags h (line_at mid.line_bytes addr)) bytes mid new → IsAtomic old mid new h addr bytes
atomic old mid new h addr bytes is first second =
    let some : 0 < old.ways = subst (λ (n : ℕ). 0 < n) first.numbers.ways is.some_ways in
    let l : Line = line_at old.line_bytes addr in
    let shape : shape_of mid ≡ shape_of old =
    ap (λ (n : ℕ). record { holders = n; sets = mid.sets; ways = mid.ways }) first.numbers.holders ∙
    ap (λ (n : ℕ). record { holders = old.holders; sets = n; ways = mid.ways }) first.numbers.sets ∙
    ap (λ (n : ℕ). record { holders = old.holders; sets = old.sets; ways = n }) first.numbers.ways in
    let line : line_at mid.line_bytes addr ≡ l = ap (λ (n : ℕ). record { 0 = line_number addr n }) first.numbers.line_bytes in
    let again = stored_again (shape_of old) old.tags h l some in
    let after : after_store (shape_of mid) mid.tags h (line_at mid.line_bytes addr) ≡ after_store (shape_of old) old.tags h l =
    ap (λ (s : Shape). after_store s mid.tags h (line_at mid.line_bytes addr)) shape ∙ ap (λ (t : Tags). after_store (shape_of old) t h (line_at mid.line_bytes addr)) first.tags ∙
    ap (λ (k : Line). after_store (shape_of old) (after_store (shape_of old) old.tags h l) h k) line ∙ again.tags_stay in
    record {
      steps = steps_twice old mid new (after_store (shape_of old) old.tags h l) old.view bytes is first (subst (λ (t : Tags). StepsTo t bytes mid new) after second) refl;
      no_notes = ap (λ (s : Shape). access_notes s mid.tags h (line_at mid.line_bytes addr) true) shape ∙ ap (λ (t : Tags). access_notes (shape_of old) t h (line_at mid.line_bytes addr) true) first.tags ∙
          ap (λ (k : Line). access_notes (shape_of old) (after_store (shape_of old) old.tags h l) h k true) line ∙ again.no_notes;
    }
