-- Every entry of a line becomes S.
use Rattle.line_memory.proofs.MemberLemmas.{each_one}
use Rattle.line_memory.proofs.WalkLemmas.{each_empty}
use Rattle.std.proofs.Common.{◌≡◌, ◌≢◌, ℕ, ◌%◌, ◌<◌, ◌≤◌, ⊎_elim, true, false, List, [], ◌∷◌, Option, Some, None, length, map, sym, ap, subst, ◌∙◌, refl, arith, eqb, cond}
use Rattle.std.specs.Option.{option_map}
use Rattle.std.proofs.lemmas.List.{get_or_past}
use Rattle.std.proofs.lemmas.Bool.{cases_eq, cases_Bool, cases_lt, eqb-true, eq-eqb}
use Rattle.std.specs.Prelude.{is_some}
use Rattle.std.proofs.lemmas.Nat.Bits.{bit_at-zero, bit_at-lt, same_from_bits}
use Rattle.std.specs.Int.{bit_at}
use Rattle.conda_base.specs.declared.Line.{Line}
use Rattle.conda_base.specs.declared.Mesi.{Mesi}
use Rattle.conda_base.specs.declared.Mesi.TheVariants.{M, E, S}
use Rattle.set_assoc.specs.Entries.{lookup, AreEntries}
use Rattle.cpu_cache.specs.Contents.{Content, Contents, content_of, set_list, tag_of, no_contents, tags_of}
use Rattle.set_assoc.proofs.FindFacts.{list_entries, apart_by_test}
use Rattle.mesi_directory.specs.declared.row.Row.{Row}
use Rattle.mesi_directory.specs.declared.row.Row.TheVariants.{Nobody, Owner, Shared}
use Rattle.mesi_directory.specs.Rows.{IsRow, row_of, has_holder}
use Rattle.mesi_directory.proofs.RowLemmas.{has-owner}
use Rattle.line_memory.specs.Notes.{all_notes, down_notes}
use Rattle.line_memory.specs.Owners.{is_owner}
use Rattle.line_memory.specs.Memory.{IsIn, line_of}
use Rattle.line_memory.specs.Tags.{Tag, held_state, some_below}
use Rattle.line_memory.proofs.BelowLemmas.{none_at, none_found, some_found}
use Rattle.line_memory.specs.Backing.{shape_of}
use Rattle.line_memory.specs.Access.{shared_line}
use Rattle.coherent_mem.specs.Moves.{IsMoved, Edits, list_at, flushed_copies, IsShared}
use Rattle.coherent_mem.specs.Parts.{Parts, AreParts, cache_at, held, shown}
use Rattle.coherent_mem.proofs.CacheFacts.{test_off}
use Rattle.coherent_mem.proofs.LineFacts.{cases_Option, some_test, cases_S, beside_owner, none_not_some, none_by_test}
use Rattle.coherent_mem.proofs.TagFacts.{state_of_content, state_shown, shared_line-absent}
use Rattle.coherent_mem.proofs.ViewFacts.{held_inside}
use Rattle.coherent_mem.proofs.MoveFacts.{list_entries_of, state_held}
use Rattle.conda_base.proofs.LineLemmas.{line_by_number}

shared_line-same : (n k : ℕ) (l : Line) (a : Content) (entries : List (Line × Content)) → AreEntries n k entries → lookup l entries ≡ Some a → a.state ≡ S → shared_line l (map tag_of entries) ≡ map tag_of entries
shared_line-same n k l a [] are at shares = refl
shared_line-same n k l a (entry ∷ rest) are at shares =
    ⊎_elim
    (λ (yes : eqb entry.0.0 l.0 ≡ true).
    let found : Some entry.1 ≡ Some a = rw yes at at in
    let content : entry.1 ≡ a = cc in
    let state : entry.1.state ≡ S = ap (λ (c : Content). c.state) content ∙ shares in
    let none : lookup l rest ≡ None = ap (λ b. lookup b rest) (line_by_number l entry.0 (sym (eqb-true _ _ yes))) ∙ are.1 in
    rw yes (ap (λ ts. (entry.0, S) ∷ ts) (shared_line-absent l rest none) ∙ ap (λ s. (entry.0, s) ∷ map tag_of rest) (sym state)))
    (λ (off : eqb entry.0.0 l.0 ≡ false). rw off (ap (λ ts. tag_of entry ∷ ts) (shared_line-same n k l a rest are.2 (rw off at at) shares)))
    (cases_Bool (eqb entry.0.0 l.0))

-- the list of a holder that has the line in S, or hasn't got it
pub list_shared : (p : Parts) → AreParts p → (l : Line) (k : ℕ) → ((a : Content) → held p l k ≡ Some a → a.state ≡ S) → shared_line l (list_at (shown p) k l) ≡ list_at (shown p) k l
list_shared p are l k shared =
    ⊎_elim
    (λ (inside : k < length p.caches).
    let fits = are.fits k inside in
    let same = list_entries_of p are k l inside in
    let entries = list_entries (cache_at p k).lines l fits.is.sets in
    ap (λ ts. shared_line l ts) same ∙
    ⊎_elim
    (λ (none : held p l k ≡ None). shared_line-absent l (set_list (cache_at p k) l) none)
    (λ (some : (a : Content) × (held p l k ≡ Some a)). shared_line-same _ _ l some.0 (set_list (cache_at p k) l) entries some.1 (shared some.0 some.1))
    (cases_Option (held p l k)) ∙ sym same)
    (λ (past : length p.caches ≤ k).
    let none : cache_at p k ≡ no_contents 0 0 0 = get_or_past p.caches k (no_contents 0 0 0) past in
    ap (λ (c : Contents). shared_line l (tags_of c (l.0 % p.sets))) none ∙ sym (ap (λ (c : Contents). tags_of c (l.0 % p.sets)) none))
    (cases_lt k (length p.caches))

-- nothing is to do where nobody has the line in M or E
pub shared_already : (p : Parts) (l : Line) (state : Mesi) → AreParts p → ((k : ℕ) (a : Content) → held p l k ≡ Some a → a.state ≡ S) → (state ≢ S → (k : ℕ) → held p l k ≡ None) → state ≡ cond (some_below (length p.caches) (λ k. is_some (held p l k))) S E → IsShared l state p p
shared_already p l state are shared alone is = record {
  numbers = record { line_bytes = refl; base = refl; holders = refl; sets = refl; ways = refl; size = refl };
  view = refl;
  tags = λ k s. ⊎_elim
      (λ (here : s ≡ l.0 % p.sets). rw (eq-eqb s (l.0 % p.sets) here) (ap (λ i. (shown p).tags k i) here ∙ sym (list_shared p are l k (shared k)) ∙ ap (λ i. shared_line l ((shown p).tags k i)) (sym here)))
      (λ (apart : s ≢ l.0 % p.sets). rw (test_off s (l.0 % p.sets) apart) refl)
      (cases_eq s (l.0 % p.sets));
  quiet = record { dirty = λ a k m. m; copies = λ a k m. refl };
  are = are;
  absent = λ k none. none;
  shared = shared;
  alone = alone;
  loads = is;
}

quiet_state : (l : Line) (k : ℕ) (state : Mesi) → state ≡ S → down_notes l k (Some state) ≡ []
quiet_state l k M is = absurd cc
quiet_state l k E is = absurd cc
quiet_state l k S is = refl

quiet_notes : (l : Line) (k : ℕ) (o : Option Content) → ((a : Content) → o ≡ Some a → a.state ≡ S) → down_notes l k (option_map state_of_content o) ≡ []
quiet_notes l k None is = refl
quiet_notes l k (Some a) is = quiet_state l k a.state (is a refl)

pub noted_already : (p : Parts) (l : Line) → AreParts p → ((k : ℕ) (a : Content) → held p l k ≡ Some a → a.state ≡ S) → all_notes down_notes (shape_of (shown p)) (shown p).tags l ≡ []
noted_already p l are shared =
    each_empty (length p.caches) (λ k. down_notes l k (held_state (shape_of (shown p)) (shown p).tags k l))
    (λ k below. ap (λ o. down_notes l k o) (state_shown p are l k) ∙ quiet_notes l k (held p l k) (shared k))

-- the state of a line after an edit of its set's list in one cache
pub state_after : (p q : Parts) (list : List Tag) (own : List ℕ) (h : ℕ) (l : Line) → Edits list own h l (shown p) (shown q) → (k : ℕ) → held_state (shape_of (shown q)) (shown q).tags k l ≡ cond (eqb k h) (lookup l list) (held_state (shape_of (shown p)) (shown p).tags k l)
state_after p q list own h l edits k =
    let n : ℕ = l.0 % p.sets in
    let at : lookup l ((shown q).tags k (l.0 % q.sets)) ≡ lookup l ((shown q).tags k n) = ap (λ (m : ℕ). lookup l ((shown q).tags k (l.0 % m))) edits.numbers.sets in
    let same : eqb n n ≡ true = eq-eqb n n refl in
    let list_is : (shown q).tags k n ≡ cond (eqb k h) list ((shown p).tags k n) = rw same at (edits.tags k n) in
    at ∙ ap (λ (ts : List Tag). lookup l ts) list_is ∙
    ⊎_elim (λ (on : eqb k h ≡ true). rw on refl) (λ (off : eqb k h ≡ false). rw off refl) (cases_Bool (eqb k h))

lookup-shared : (l : Line) (state : Mesi) (tags : List Tag) → lookup l tags ≡ Some state → lookup l (shared_line l tags) ≡ Some S
lookup-shared l state [] is = absurd cc
lookup-shared l state (tag ∷ tags) is =
    ⊎_elim
    (λ (on : eqb tag.0.0 l.0 ≡ true). rw on (rw on refl))
    (λ (off : eqb tag.0.0 l.0 ≡ false). rw off (rw off (lookup-shared l state tags (rw off at is))))
    (cases_Bool (eqb tag.0.0 l.0))

state_none : (o : Option Content) → option_map state_of_content o ≡ None → o ≡ None
state_none None is = refl
state_none (Some a) is = absurd cc

-- the owner of a line has become one of its sharers
pub shared_from_owner : (p q : Parts) (l : Line) (o : ℕ) (a : Content) → AreParts p → held p l o ≡ Some a → a.state ≢ S → IsMoved (shared_line l (list_at (shown p) o l)) (flushed_copies (shown p) l) o l p q → IsShared l S p q
shared_from_owner p q l o a are at owns is =
    let inside = held_inside p l o a at in
    let kept = are.kept l (are.range l o a at) in
    let none : (k : ℕ) → k ≢ o → held p l k ≡ None = λ k apart. beside_owner (held p l) (row_of p.rows l) (line_of p.memory l) kept o k a at owns apart in
    let now : (k : ℕ) → option_map state_of_content (held q l k) ≡ cond (eqb k o) (Some S) None =
    λ k. sym (state_shown q is.are l k) ∙ state_after p q _ _ o l is.edits k ∙ ⊎_elim
    (λ (same : k ≡ o). rw (eq-eqb k o same) (lookup-shared l a.state (list_at (shown p) o l) (state_held p are l o a at)))
    (λ (apart : k ≢ o). rw (test_off k o apart) (state_shown p are l k ∙ ap (λ x. option_map state_of_content x) (none k apart)))
    (cases_eq k o) in
    record {
      numbers = is.edits.numbers;
      view = is.edits.view;
      tags = λ k s. is.edits.tags k s ∙ ⊎_elim
          (λ (here : s ≡ l.0 % p.sets). rw (eq-eqb s (l.0 % p.sets) here)
          (⊎_elim
          (λ (same : k ≡ o). rw (eq-eqb k o same) (ap (λ i. shared_line l ((shown p).tags i (l.0 % p.sets))) (sym same) ∙ ap (λ i. shared_line l ((shown p).tags k i)) (sym here)))
          (λ (apart : k ≢ o). rw (test_off k o apart)
          (ap (λ i. (shown p).tags k i) here ∙ sym (list_shared p are l k (λ b held_b. absurd (none_not_some (held p l k) b (none k apart) held_b))) ∙ ap (λ i. shared_line l ((shown p).tags k i)) (sym here)))
          (cases_eq k o)))
          (λ (other : s ≢ l.0 % p.sets). rw (test_off s (l.0 % p.sets) other) refl)
          (cases_eq s (l.0 % p.sets));
      quiet = is.quiet;
      are = is.are;
      absent = λ k was. ⊎_elim
          (λ (same : k ≡ o). absurd (none_not_some (held p l k) a was (ap (λ i. held p l i) same ∙ at)))
          (λ (apart : k ≢ o). state_none (held q l k) (now k ∙ rw (test_off k o apart) refl)) (cases_eq k o);
      shared = λ k b held_b. ⊎_elim
          (λ (same : k ≡ o). let both : Some b.state ≡ Some S = sym (ap (λ x. option_map state_of_content x) held_b) ∙ now k ∙ rw (eq-eqb k o same) refl in cc)
          (λ (apart : k ≢ o). absurd (none_not_some (held q l k) b (state_none (held q l k) (now k ∙ rw (test_off k o apart) refl)) held_b)) (cases_eq k o);
      alone = λ apart. absurd (apart refl);
      loads = rw (some_found (length p.caches) o (λ k. is_some (held p l k)) inside (some_test (held p l o) a at)) refl;
    }

pub noted_from_owner : (p : Parts) (l : Line) (o : ℕ) (a : Content) → AreParts p → held p l o ≡ Some a → a.state ≢ S → all_notes down_notes (shape_of (shown p)) (shown p).tags l ≡ down_notes l o (held_state (shape_of (shown p)) (shown p).tags o l)
noted_from_owner p l o a are at owns =
    let inside = held_inside p l o a at in
    let kept = are.kept l (are.range l o a at) in
    each_one (length p.caches) o (λ k. down_notes l k (held_state (shape_of (shown p)) (shown p).tags k l)) inside
    (λ k below apart. ap (λ x. down_notes l k x) (state_shown p are l k ∙ ap (λ x. option_map state_of_content x)
    (beside_owner (held p l) (row_of p.rows l) (line_of p.memory l) kept o k a at owns apart)))

-- what a row tells of the holders
pub row_owner : (p : Parts) (l : Line) (o : ℕ) → AreParts p → IsIn p.memory l → row_of p.rows l ≡ Owner o → (a : Content) × (held p l o ≡ Some a) × (a.state ≢ S)
row_owner p l o are there row =
    let kept = are.kept l there in
    let has_it : is_some (held p l o) ≡ true = sym (kept.holders o) ∙ ap (λ r. has_holder r o) row ∙ has-owner o o ∙ eq-eqb o o refl in
    ⊎_elim
    (λ (none : held p l o ≡ None). let both : false ≡ true = sym (ap is_some none) ∙ has_it in absurd cc)
    (λ (some : (a : Content) × (held p l o ≡ Some a)). (some.0, some.1, kept.owned o some.0 some.1 row))
    (cases_Option (held p l o))

pub row_shared : (p : Parts) (l : Line) → AreParts p → IsIn p.memory l → ((o : ℕ) → row_of p.rows l ≢ Owner o) → (k : ℕ) (a : Content) → held p l k ≡ Some a → a.state ≡ S
row_shared p l are there apart k a at =
    ⊎_elim (λ s. s) (λ (owns : a.state ≢ S). absurd (apart k ((are.kept l there).owner k a at owns))) (cases_S a.state)

pub row_nobody : (p : Parts) (l : Line) → AreParts p → IsIn p.memory l → row_of p.rows l ≡ Nobody → (k : ℕ) → held p l k ≡ None
row_nobody p l are there row k =
    none_by_test (held p l k) (sym ((are.kept l there).holders k) ∙ ap (λ r. has_holder r k) row ∙ nobody k)
  where
    nobody : (k : ℕ) → has_holder Nobody k ≡ false
    nobody k = ap (λ n. eqb n 1) (bit_at-zero k)

none_below : (p : Parts) (l : Line) → some_below (length p.caches) (λ k. is_some (held p l k)) ≡ false → (k : ℕ) → held p l k ≡ None
none_below p l none k =
    ⊎_elim
    (λ (inside : k < length p.caches). none_by_test (held p l k) (none_at (length p.caches) k (λ k. is_some (held p l k)) none inside))
    (λ (past : length p.caches ≤ k). ap (λ (c : Contents). content_of c l) (get_or_past p.caches k (no_contents 0 0 0) past))
    (cases_lt k (length p.caches))

-- some holder has a line whose row has sharers
pub some_sharer : (p : Parts) (l : Line) (bits : ℕ) → AreParts p → IsIn p.memory l → row_of p.rows l ≡ Shared bits → 0 < bits → some_below (length p.caches) (λ k. is_some (held p l k)) ≡ true
some_sharer p l bits are there row some =
    ⊎_elim (λ yes. yes)
    (λ (none : some_below (length p.caches) (λ k. is_some (held p l k)) ≡ false).
    let off : (k : ℕ) → eqb (bit_at bits k) 1 ≡ false =
    λ k. ap (λ r. has_holder r k) (sym row) ∙ (are.kept l there).holders k ∙ ap is_some (none_below p l none k) in
    let zero_bits : bits ≡ 0 = same_from_bits bits 0 (λ k.
    let small = bit_at-lt bits k in
    let apart : bit_at bits k ≢ 1 = apart_by_test _ _ (off k) in
    let zero_bit : bit_at bits k ≡ 0 = omega arith in
    zero_bit ∙ sym (bit_at-zero k)) in
    absurd (omega arith))
    (cases_Bool (some_below (length p.caches) (λ k. is_some (held p l k))))

pub owner_state : (p : Parts) (l : Line) (o : ℕ) → AreParts p → IsIn p.memory l → row_of p.rows l ≡ Owner o → is_owner (held_state (shape_of (shown p)) (shown p).tags o l) ≡ true
owner_state p l o are there row =
    let a = row_owner p l o are there row in
    ap is_owner (state_held p are l o a.0 a.1) ∙ owns a.0.state a.2
  where
    owns : (state : Mesi) → state ≢ S → is_owner (Some state) ≡ true
    owns M is = refl
    owns E is = refl
    owns S is = absurd (is refl)

-- by the row of a line
pub shared_nobody : (p : Parts) (l : Line) → AreParts p → IsIn p.memory l → row_of p.rows l ≡ Nobody → IsShared l E p p
shared_nobody p l are there row =
    let none = row_nobody p l are there row in
    shared_already p l E are (λ k a at. absurd (none_not_some (held p l k) a (none k) at)) (λ apart k. none k)
    (rw (none_found (length p.caches) (λ k. is_some (held p l k)) (λ k below. ap is_some (none k))) refl)

pub noted_nobody : (p : Parts) (l : Line) → AreParts p → IsIn p.memory l → row_of p.rows l ≡ Nobody → all_notes down_notes (shape_of (shown p)) (shown p).tags l ≡ []
noted_nobody p l are there row = noted_already p l are (λ k a at. absurd (none_not_some (held p l k) a (row_nobody p l are there row k) at))

pub apart_of_shared : (p : Parts) (l : Line) (bits : ℕ) → row_of p.rows l ≡ Shared bits → (o : ℕ) → row_of p.rows l ≢ Owner o
apart_of_shared p l bits row o owner = let both : Shared bits ≡ Owner o = sym row ∙ owner in cc

pub shared_sharers : (p : Parts) (l : Line) (bits : ℕ) → AreParts p → IsIn p.memory l → row_of p.rows l ≡ Shared bits → 0 < bits → IsShared l S p p
shared_sharers p l bits are there row some =
    shared_already p l S are (row_shared p l are there (apart_of_shared p l bits row)) (λ apart. absurd (apart refl))
    (rw (some_sharer p l bits are there row some) refl)

pub noted_sharers : (p : Parts) (l : Line) (bits : ℕ) → AreParts p → IsIn p.memory l → row_of p.rows l ≡ Shared bits → all_notes down_notes (shape_of (shown p)) (shown p).tags l ≡ []
noted_sharers p l bits are there row = noted_already p l are (row_shared p l are there (apart_of_shared p l bits row))

pub shared_owner : (p q : Parts) (l : Line) (o : ℕ) → AreParts p → IsIn p.memory l → row_of p.rows l ≡ Owner o → IsMoved (shared_line l (list_at (shown p) o l)) (flushed_copies (shown p) l) o l p q → IsShared l S p q
shared_owner p q l o are there row is = let a = row_owner p l o are there row in shared_from_owner p q l o a.0 are a.1 a.2 is

pub noted_owner : (p : Parts) (l : Line) (o : ℕ) → AreParts p → IsIn p.memory l → row_of p.rows l ≡ Owner o → all_notes down_notes (shape_of (shown p)) (shown p).tags l ≡ down_notes l o (held_state (shape_of (shown p)) (shown p).tags o l)
noted_owner p l o are there row = let a = row_owner p l o are there row in noted_from_owner p l o a.0 are a.1 a.2

pub some_bits : (row : Row) (bits : ℕ) → row ≡ Shared bits → IsRow row → 0 < bits
some_bits row bits is valid = (subst (λ (r : Row). IsRow r) is valid).0
