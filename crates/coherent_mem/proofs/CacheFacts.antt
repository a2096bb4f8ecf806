-- What a change of one line's entry makes of a cache.
use Rattle.std.proofs.Common.{◌≡◌, ◌≢◌, ℕ, ◌<◌, ◌≤◌, ⊎_elim, true, false, eqb, List, [], ◌∷◌, Option, Some, None, length, get_or, take, sym, ap, subst, ◌∙◌, refl}
use Rattle.std.specs.Option.{IfSome}
use Rattle.std.proofs.lemmas.List.{length-set, length-take-le}
use Rattle.std.proofs.lemmas.Bool.{cases_Bool, cases_eq, eqb-true, eq-eqb}
use Rattle.conda_base.specs.declared.Line.{Line}
use Rattle.conda_base.specs.declared.Mesi.{Mesi}
use Rattle.set_assoc.specs.Entries.{lookup, without, replaced}
use Rattle.set_assoc.specs.SetLists.{SetLists, set_of, list_of, with_list, find, IsSets, taken_out}
use Rattle.set_assoc.proofs.EntryLemmas.{lookup-without_same}
use Rattle.set_assoc.proofs.SetLemmas.{lookup-replaced_same}
use Rattle.cpu_cache.specs.Contents.{Content, Contents, IsCache, content_of, bytes_of, content_bytes, set_list, with_set, in_front, filled, restated}
use Rattle.set_assoc.proofs.FindFacts.{list_entries, list_of-other, list_of-same, IsSets-taken_out, IsSets-put, IsSets-replaced}
use Rattle.cpu_cache.proofs.ViewFacts.{with_list_twice}
use Rattle.cpu_cache.proofs.StoreFacts.{room_after}
use Rattle.conda_base.proofs.LineLemmas.{line_by_number}

pub test_off : (a b : ℕ) → a ≢ b → eqb a b ≡ false
test_off a b apart = ⊎_elim (λ on. absurd (apart (eqb-true a b on))) (λ off. off) (cases_Bool (eqb a b))

module _ {T : Type 0} where
  pub lookup-cons_other : (a l : Line) (x : T) (entries : List (Line × T)) → a.0 ≢ l.0 → lookup a ((l, x) ∷ entries) ≡ lookup a entries
  lookup-cons_other a l x entries apart = rw (test_off l.0 a.0 (λ same. apart (sym same))) refl

  pub lookup-cons_same : (l : Line) (x : T) (entries : List (Line × T)) → lookup l ((l, x) ∷ entries) ≡ Some x
  lookup-cons_same l x entries = rw (eq-eqb l.0 l.0 refl) refl

  pub lookup-without_other : (a l : Line) (entries : List (Line × T)) → a.0 ≢ l.0 → lookup a (without l entries) ≡ lookup a entries
  lookup-without_other a l [] apart = refl
  lookup-without_other a l (entry ∷ rest) apart =
      ⊎_elim
      (λ (yes : eqb entry.0.0 l.0 ≡ true).
      let off : eqb entry.0.0 a.0 ≡ false = test_off entry.0.0 a.0 (λ same. apart (sym same ∙ eqb-true _ _ yes)) in
      rw yes (rw off refl))
      (λ (no : eqb entry.0.0 l.0 ≡ false). rw no
      (⊎_elim (λ (here : eqb entry.0.0 a.0 ≡ true). rw here refl)
      (λ (off : eqb entry.0.0 a.0 ≡ false). rw off (lookup-without_other a l rest apart))
      (cases_Bool (eqb entry.0.0 a.0))))
      (cases_Bool (eqb entry.0.0 l.0))

  pub lookup-replaced_other : (a l : Line) (x : T) (entries : List (Line × T)) → a.0 ≢ l.0 → lookup a (replaced l x entries) ≡ lookup a entries
  lookup-replaced_other a l x [] apart = refl
  lookup-replaced_other a l x (entry ∷ rest) apart =
      ⊎_elim
      (λ (yes : eqb entry.0.0 l.0 ≡ true).
      let off : eqb entry.0.0 a.0 ≡ false = test_off entry.0.0 a.0 (λ same. apart (sym same ∙ eqb-true _ _ yes)) in
      let new : eqb l.0 a.0 ≡ false = test_off l.0 a.0 (λ same. apart (sym same)) in
      rw yes (rw (off, new) refl))
      (λ (no : eqb entry.0.0 l.0 ≡ false). rw no
      (⊎_elim (λ (here : eqb entry.0.0 a.0 ≡ true). rw here refl)
      (λ (off : eqb entry.0.0 a.0 ≡ false). rw off (lookup-replaced_other a l x rest apart))
      (cases_Bool (eqb entry.0.0 a.0))))
      (cases_Bool (eqb entry.0.0 l.0))

  -- a line is looked up in the new list of its own set, and another line as before
  pub find-edited_same : (sets : SetLists T) (l : Line) (entries : List (Line × T)) → IsSets sets → find (with_list sets l entries) l ≡ lookup l entries
  find-edited_same sets l entries are = ap (λ es. lookup l es) (list_of-same sets l l entries are refl)

  pub find-edited_other : (sets : SetLists T) (l a : Line) (entries : List (Line × T)) → IsSets sets → lookup a entries ≡ lookup a (list_of sets l) → find (with_list sets l entries) a ≡ find sets a
  find-edited_other sets l a entries are same =
      ⊎_elim
      (λ (there : set_of sets a ≡ set_of sets l).
      ap (λ es. lookup a es) (list_of-same sets l a entries are there) ∙ same ∙ ap (λ k. lookup a (get_or sets.lists k [])) (sym there))
      (λ (apart : set_of sets a ≢ set_of sets l). ap (λ es. lookup a es) (list_of-other sets l a entries apart))
      (cases_eq (set_of sets a) (set_of sets l))

-- the bytes of a content
abbrev pub HasBytes : ℕ → Option Content → Type 0
HasBytes n o = IfSome o (λ content. length content.bytes ≡ n)

-- a cache in which one line's content is another, or gone
pub record IsEdit (c : Contents) (l : Line) (x : Option Content) (new : Contents) : Type 0 where
  pub is : IsCache new
  pub line_bytes : new.line_bytes ≡ c.line_bytes
  pub sets : length new.lines.lists ≡ length c.lines.lists
  pub ways : new.lines.ways ≡ c.lines.ways
  pub here : content_of new l ≡ x
  pub others : (a : Line) → a.0 ≢ l.0 → content_of new a ≡ content_of c a

edit : (c : Contents) (l : Line) (x : Option Content) (entries : List (Line × Content)) → IsCache c → IsSets (with_set c l entries).lines → HasBytes c.line_bytes x → lookup l entries ≡ x → ((a : Line) → a.0 ≢ l.0 → lookup a entries ≡ lookup a (set_list c l)) → IsEdit c l x (with_set c l entries)
edit c l x entries is sets fits here others =
    let new : content_of (with_set c l entries) l ≡ x = find-edited_same c.lines l entries is.sets ∙ here in
    let rest : (a : Line) → a.0 ≢ l.0 → content_of (with_set c l entries) a ≡ content_of c a =
    λ a apart. find-edited_other c.lines l a entries is.sets (others a apart) in
    record {
      is = record {
        size = is.size;
        sets = sets;
        bytes = λ a. ⊎_elim
            (λ (same : a.0 ≡ l.0). rw (ap (λ k. content_of (with_set c l entries) k) (line_by_number a l same) ∙ new) fits)
            (λ (apart : a.0 ≢ l.0). rw (rest a apart) (is.bytes a))
            (cases_eq a.0 l.0);
      };
      line_bytes = refl;
      sets = length-set c.lines.lists (set_of c.lines l) entries;
      ways = refl;
      here = new;
      others = rest;
    }

-- a held line is taken out
pub edit_dropped : (c : Contents) (l : Line) (content : Content) → IsCache c → content_of c l ≡ Some content → IsEdit c l None (with_set c l (without l (set_list c l)))
edit_dropped c l content is there =
    edit c l None (without l (set_list c l)) is (IsSets-taken_out c.lines l content is.sets there) tt
    (lookup-without_same _ _ l (set_list c l) (list_entries c.lines l is.sets))
    (λ a apart. lookup-without_other a l (set_list c l) apart)

pub bytes_held : (c : Contents) (l : Line) (content : Content) → IsCache c → content_of c l ≡ Some content → length content.bytes ≡ c.line_bytes
bytes_held c l content is there = rw there at (is.bytes l)

-- a held line is in another state
pub edit_restated : (c : Contents) (l : Line) (content : Content) (state : Mesi) → IsCache c → content_of c l ≡ Some content → IsEdit c l (Some (record { state = state; bytes = content.bytes })) (with_set c l (restated c l state))
edit_restated c l content state is there =
    let bytes : bytes_of c l ≡ content.bytes = ap content_bytes there in
    edit c l (Some (record { state = state; bytes = content.bytes })) (restated c l state) is
    (IsSets-replaced c.lines l (record { state = state; bytes = bytes_of c l }) is.sets)
    (bytes_held c l content is there)
    (lookup-replaced_same l (record { state = state; bytes = bytes_of c l }) content (set_list c l) there ∙ ap (λ b. Some (record { state = state; bytes = b })) bytes)
    (λ a apart. lookup-replaced_other a l _ (set_list c l) apart)

-- a line that isn't held is put in front of its set, which has room
pub edit_filled : (c : Contents) (l : Line) (from : List ℕ) (state : Mesi) → IsCache c → content_of c l ≡ None → length (set_list c l) < c.lines.ways → c.line_bytes ≤ length from → IsEdit c l (Some (record { state = state; bytes = take c.line_bytes from })) (with_set c l (filled c l from state))
edit_filled c l from state is absent room long =
    edit c l (Some (record { state = state; bytes = take c.line_bytes from })) (filled c l from state) is
    (IsSets-put c.lines l (record { state = state; bytes = take c.line_bytes from }) is.sets absent room)
    (length-take-le c.line_bytes from long)
    (lookup-cons_same l _ (set_list c l))
    (λ a apart. lookup-cons_other a l _ (set_list c l) apart)

-- a held line is put in front of its set with another content
IsSets-front : {T : Type 0} (sets : SetLists T) (l : Line) (was new : T) → IsSets sets → find sets l ≡ Some was → IsSets (with_list sets l ((l, new) ∷ without l (list_of sets l)))
IsSets-front {T = T} sets l was new are there =
    let out : IsSets (taken_out sets l) = IsSets-taken_out sets l was are there in
    let list : list_of (taken_out sets l) l ≡ without l (list_of sets l) = list_of-same sets l l (without l (list_of sets l)) are refl in
    let absent : find (taken_out sets l) l ≡ None =
    ap (λ es. lookup l es) list ∙ lookup-without_same _ _ l (list_of sets l) (list_entries sets l are) in
    let put : IsSets (with_list (taken_out sets l) l ((l, new) ∷ list_of (taken_out sets l) l)) =
    IsSets-put (taken_out sets l) l new out absent (room_after sets l was are there) in
    let same : with_list (taken_out sets l) l ((l, new) ∷ list_of (taken_out sets l) l) ≡ with_list sets l ((l, new) ∷ without l (list_of sets l)) =
    ap (λ es. with_list (taken_out sets l) l ((l, new) ∷ es)) list ∙ with_list_twice sets l (without l (list_of sets l)) ((l, new) ∷ without l (list_of sets l)) in
    let P : SetLists T → Type 0 = λ s. IsSets s in
    subst P same put

pub edit_front : (c : Contents) (l : Line) (was new : Content) → IsCache c → content_of c l ≡ Some was → length new.bytes ≡ c.line_bytes → IsEdit c l (Some new) (with_set c l (in_front c l new))
edit_front c l was new is there long =
    edit c l (Some new) (in_front c l new) is (IsSets-front c.lines l was new is.sets there) long
    (lookup-cons_same l new (without l (set_list c l)))
    (λ a apart. lookup-cons_other a l new (without l (set_list c l)) apart ∙ lookup-without_other a l (set_list c l) apart)
