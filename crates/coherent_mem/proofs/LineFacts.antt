-- The holders of one line, its row and memory's copy of it.
use Rattle.std.proofs.Common.{◌≡◌, ◌≢◌, ℕ, zero, suc, ◌<◌, ◌⊎◌, inl, inr, ⊎_elim, Bool, true, false, eqb, List, Option, Some, None, sym, ap, subst, ◌∙◌, refl, arith}
use Rattle.std.specs.Prelude.{◌==◌, ◌||◌, ◌&&◌, is_some}
use Rattle.std.proofs.lemmas.Bool.{cases_Bool, cases_eq, eqb-true, eq-eqb}
use Rattle.conda_base.specs.declared.Mesi.{Mesi}
use Rattle.conda_base.specs.declared.Mesi.TheVariants.{M, E, S}
use Rattle.cpu_cache.specs.Contents.{Content}
use Rattle.mesi_directory.specs.declared.row.Row.{Row}
use Rattle.mesi_directory.specs.declared.row.Row.TheVariants.{Nobody, Owner, Shared}
use Rattle.mesi_directory.specs.Rows.{has_holder, shared_with, sharers, without_holder}
use Rattle.mesi_directory.proofs.RowLemmas.{has-owner, has-shared_with, has-without}
use Rattle.coherent_mem.specs.Parts.{IsKept, bytes_or, seen_below}
use Rattle.coherent_mem.proofs.CacheFacts.{test_off}

pub cases_M : (m : Mesi) → (m ≡ M) ⊎ (m ≢ M)
cases_M M = inl refl
cases_M E = inr (λ same. cc)
cases_M S = inr (λ same. cc)

pub cases_S : (m : Mesi) → (m ≡ S) ⊎ (m ≢ S)
cases_S M = inr (λ same. cc)
cases_S E = inr (λ same. cc)
cases_S S = inl refl

pub m_not_s : (m : Mesi) → m ≡ M → m ≢ S
m_not_s m is same = let both : M ≡ S = sym is ∙ same in absurd cc

pub s_not_m : (m : Mesi) → m ≡ S → m ≢ M
s_not_m m is same = let both : S ≡ M = sym is ∙ same in absurd cc

pub none_not_some : {A : Type 0} (o : Option A) (x : A) → o ≡ None → o ≡ Some x → ⊥
none_not_some o x none some = let both : None ≡ Some x = sym none ∙ some in cc

-- an option that a test tells to be something, or nothing
pub cases_Option : {A : Type 0} (o : Option A) → (o ≡ None) ⊎ ((x : A) × (o ≡ Some x))
cases_Option None = inl refl
cases_Option (Some x) = inr (x, refl)

pub some_test : {A : Type 0} (o : Option A) (x : A) → o ≡ Some x → is_some o ≡ true
some_test o x is = ap is_some is

pub none_by_test : {A : Type 0} (o : Option A) → is_some o ≡ false → o ≡ None
none_by_test None is = refl
none_by_test (Some x) is = absurd cc

-- a row of sharers has no owner
pub sharers_apart : (bits h : ℕ) → sharers bits ≢ Owner h
sharers_apart bits h same =
    ⊎_elim
    (λ (none : eqb bits 0 ≡ true). let is : Nobody ≡ Owner h = rw none at same in cc)
    (λ (some : eqb bits 0 ≡ false). let is : Shared bits ≡ Owner h = rw some at same in cc)
    (cases_Bool (eqb bits 0))

-- an owner is the only holder
pub sole : (f : ℕ → Option Content) (row : Row) (copy : List ℕ) → IsKept f row copy → (h k : ℕ) (a b : Content) → f h ≡ Some a → a.state ≢ S → f k ≡ Some b → k ≡ h
sole f row copy is h k a b there owns other =
    let owner : row ≡ Owner h = is.owner h a there owns in
    let test : (k == h) ≡ true = sym (has-owner h k) ∙ ap (λ r. has_holder r k) (sym owner) ∙ is.holders k ∙ some_test (f k) b other in
    eqb-true k h test

pub beside_owner : (f : ℕ → Option Content) (row : Row) (copy : List ℕ) → IsKept f row copy → (h k : ℕ) (a : Content) → f h ≡ Some a → a.state ≢ S → k ≢ h → f k ≡ None
beside_owner f row copy is h k a there owns apart =
    ⊎_elim (λ none. none) (λ (some : (b : Content) × (f k ≡ Some b)). absurd (apart (sole f row copy is h k a some.0 there owns some.1)))
    (cases_Option (f k))

-- all holders have the same bytes
pub agree : (f : ℕ → Option Content) (row : Row) (copy : List ℕ) → IsKept f row copy → (h k : ℕ) (a b : Content) → f h ≡ Some a → f k ≡ Some b → a.bytes ≡ b.bytes
agree f row copy is h k a b first second =
    let same : k ≡ h → a.bytes ≡ b.bytes =
    λ (at : k ≡ h). let both : Some a ≡ Some b = sym first ∙ ap f (sym at) ∙ second in let one : a ≡ b = cc in ap (λ (c : Content). c.bytes) one in
    ⊎_elim
    (λ (m : a.state ≡ M). same (sole f row copy is h k a b first (m_not_s a.state m) second))
    (λ (a_clean : a.state ≢ M). ⊎_elim
    (λ (m : b.state ≡ M). same (sym (sole f row copy is k h b a second (m_not_s b.state m) first)))
    (λ (b_clean : b.state ≢ M). is.clean h a first a_clean ∙ sym (is.clean k b second b_clean))
    (cases_M b.state))
    (cases_M a.state)

-- what users see of a line: the bytes of any holder
pub seen_held : (n : ℕ) (f : ℕ → Option Content) (row : Row) (copy : List ℕ) → IsKept f row copy → (h : ℕ) (a : Content) → h < n → f h ≡ Some a → seen_below n f copy ≡ a.bytes
seen_held zero f row copy is h a below there = absurd (omega arith)
seen_held (suc n) f row copy is h a below there = go (f n) refl (λ inside. seen_held n f row copy is h a inside there)
  where
    go : (o : Option Content) → f n ≡ o → (h < n → seen_below n f copy ≡ a.bytes) → bytes_or o (seen_below n f copy) ≡ a.bytes
    go None at rest = rest
        (⊎_elim (λ (same : h ≡ n). absurd (none_not_some (f n) a at (ap f (sym same) ∙ there))) (λ (apart : h ≢ n). omega arith) (cases_eq h n))
    go (Some b) at rest = sym (agree f row copy is h n a b there at)

-- bytes that all holders and memory have
pub seen_all : (n : ℕ) (f : ℕ → Option Content) (copy bytes : List ℕ) → ((h : ℕ) (a : Content) → f h ≡ Some a → a.bytes ≡ bytes) → copy ≡ bytes → seen_below n f copy ≡ bytes
seen_all zero f copy bytes all own = own
seen_all (suc n) f copy bytes all own = go (f n) refl (seen_all n f copy bytes all own)
  where
    go : (o : Option Content) → f n ≡ o → seen_below n f copy ≡ bytes → bytes_or o (seen_below n f copy) ≡ bytes
    go None at rest = rest
    go (Some b) at rest = all n b at

pub seen_same : (n : ℕ) (f g : ℕ → Option Content) (copy : List ℕ) → ((h : ℕ) → g h ≡ f h) → seen_below n g copy ≡ seen_below n f copy
seen_same zero f g copy same = refl
seen_same (suc n) f g copy same =
    ap (λ o. bytes_or o (seen_below n g copy)) (same n) ∙ ap (λ rest. bytes_or (f n) rest) (seen_same n f g copy same)

pub kept_same : (f g : ℕ → Option Content) (row : Row) (copy : List ℕ) → ((h : ℕ) → g h ≡ f h) → IsKept f row copy → IsKept g row copy
kept_same f g row copy same is = record {
  holders = λ h. is.holders h ∙ ap is_some (sym (same h));
  owner = λ h a there. is.owner h a (sym (same h) ∙ there);
  owned = λ h a there. is.owned h a (sym (same h) ∙ there);
  clean = λ h a there. is.clean h a (sym (same h) ∙ there);
}

pub some_equal : {A : Type 0} (o : Option A) (x y : A) → o ≡ Some x → o ≡ Some y → x ≡ y
some_equal o x y first second = let both : Some x ≡ Some y = sym first ∙ second in cc

-- a line with one holder, which owns it
pub kept_owned : (g : ℕ → Option Content) (copy : List ℕ) (h : ℕ) (a : Content) → g h ≡ Some a → a.state ≢ S → ((k : ℕ) → k ≢ h → g k ≡ None) → (a.state ≢ M → a.bytes ≡ copy) → IsKept g (Owner h) copy
kept_owned g copy h a there owns alone fresh =
    let only : (k : ℕ) (b : Content) → g k ≡ Some b → (k ≡ h) × (b ≡ a) =
    λ k b at. ⊎_elim
    (λ (same : k ≡ h). (same, some_equal (g k) b a at (ap g same ∙ there)))
    (λ (apart : k ≢ h). absurd (none_not_some (g k) b (alone k apart) at)) (cases_eq k h) in
    record {
      holders = λ k. has-owner h k ∙ ⊎_elim
          (λ (same : k ≡ h). eq-eqb k h same ∙ sym (ap is_some (ap g same ∙ there)))
          (λ (apart : k ≢ h). test_off k h apart ∙ sym (ap is_some (alone k apart))) (cases_eq k h);
      owner = λ k b at state. ap (λ i. Owner i) (sym (only k b at).0);
      owned = λ k b at row. rw (only k b at).1 owns;
      clean = λ k b at state. let is = (only k b at).1 in
          let bytes : b.bytes ≡ a.bytes = ap (λ (c : Content). c.bytes) is in
          let P : Mesi → Type 0 = λ m. m ≢ M in
          bytes ∙ fresh (subst P (ap (λ (c : Content). c.state) is) state);
    }

-- a line that its holders share
pub kept_shared : (g : ℕ → Option Content) (row : Row) (copy : List ℕ) → ((k : ℕ) → has_holder row k ≡ is_some (g k)) → ((k : ℕ) → row ≢ Owner k) → ((k : ℕ) (a : Content) → g k ≡ Some a → (a.state ≡ S) × (a.bytes ≡ copy)) → IsKept g row copy
kept_shared g row copy holders no_owner all = record {
  holders = holders;
  owner = λ k a at state. absurd (state (all k a at).0);
  owned = λ k a at row. absurd (no_owner k row);
  clean = λ k a at state. (all k a at).1;
}

-- one holder of a line leaves it, and memory has its bytes
pub kept_left : (f g : ℕ → Option Content) (row : Row) (copy : List ℕ) (h : ℕ) (a : Content) → IsKept f row copy → f h ≡ Some a → g h ≡ None → ((k : ℕ) → k ≢ h → g k ≡ f k) → IsKept g (without_holder row h) a.bytes
kept_left f g row copy h a is there gone beside =
    let held : has_holder row h ≡ true = is.holders h ∙ some_test (f h) a there in
    kept_shared g (without_holder row h) a.bytes
    (λ k. has-without row h k held ∙ ⊎_elim
    (λ (same : k ≡ h). rw (eq-eqb k h same) (off (has_holder row k)) ∙ sym (ap is_some (ap g same ∙ gone)))
    (λ (apart : k ≢ h). rw (test_off k h apart) (on (has_holder row k)) ∙ is.holders k ∙ ap is_some (sym (beside k apart))) (cases_eq k h))
    (λ k same. sharers_apart _ k same)
    (λ k b at.
    let apart : k ≢ h = λ same. none_not_some (g k) b (ap g same ∙ gone) at in
    let was : f k ≡ Some b = sym (beside k apart) ∙ at in (
      ⊎_elim (λ (s : b.state ≡ S). s) (λ (owns : b.state ≢ S). absurd (apart (sym (sole f row copy is k h b a was owns there)))) (cases_S b.state),
      agree f row copy is k h b a was there,
    ))
  where
    off : (b : Bool) → (b && false) ≡ false
    off true = refl
    off false = refl

    on : (b : Bool) → (b && true) ≡ b
    on true = refl
    on false = refl

-- the owner of a line shares it, and memory has its bytes
pub kept_down : (f g : ℕ → Option Content) (copy : List ℕ) (o : ℕ) (a : Content) → IsKept f (Owner o) copy → f o ≡ Some a → g o ≡ Some (record { state = S; bytes = a.bytes }) → ((k : ℕ) → k ≢ o → g k ≡ f k) → IsKept g (shared_with (Owner o) o) a.bytes
kept_down f g copy o a is there now beside =
    let owns : a.state ≢ S = is.owned o a there refl in
    let alone : (k : ℕ) → k ≢ o → g k ≡ None = λ k apart. beside k apart ∙ beside_owner f (Owner o) copy is o k a there owns apart in
    kept_shared g (shared_with (Owner o) o) a.bytes
    (λ k. has-shared_with (Owner o) o k ∙ ap (λ b. b || (k == o)) (has-owner o k) ∙ ⊎_elim
    (λ (same : k ≡ o). rw (eq-eqb k o same) (sym (ap is_some (ap g same ∙ now))))
    (λ (apart : k ≢ o). rw (test_off k o apart) (sym (ap is_some (alone k apart)))) (cases_eq k o))
    (λ k same. cc)
    (λ k b at. ⊎_elim
    (λ (same : k ≡ o).
    let is_a : b ≡ record { state = S; bytes = a.bytes } = some_equal (g k) b _ at (ap g same ∙ now) in
    (ap (λ (c : Content). c.state) is_a, ap (λ (c : Content). c.bytes) is_a))
    (λ (apart : k ≢ o). absurd (none_not_some (g k) b (alone k apart) at)) (cases_eq k o))

-- a new holder shares a line that has no owner
pub kept_joined : (f g : ℕ → Option Content) (row : Row) (copy : List ℕ) (h : ℕ) → IsKept f row copy → ((k : ℕ) → row ≢ Owner k) → g h ≡ Some (record { state = S; bytes = copy }) → ((k : ℕ) → k ≢ h → g k ≡ f k) → IsKept g (shared_with row h) copy
kept_joined f g row copy h is no_owner now beside =
    kept_shared g (shared_with row h) copy
    (λ k. has-shared_with row h k ∙ ⊎_elim
    (λ (same : k ≡ h). rw (eq-eqb k h same) (on (has_holder row k)) ∙ sym (ap is_some (ap g same ∙ now)))
    (λ (apart : k ≢ h). rw (test_off k h apart) (off (has_holder row k)) ∙ is.holders k ∙ ap is_some (sym (beside k apart))) (cases_eq k h))
    (λ k same. cc)
    (λ k b at. ⊎_elim
    (λ (same : k ≡ h).
    let is_new : b ≡ record { state = S; bytes = copy } = some_equal (g k) b _ at (ap g same ∙ now) in
    (ap (λ (c : Content). c.state) is_new, ap (λ (c : Content). c.bytes) is_new))
    (λ (apart : k ≢ h).
    let was : f k ≡ Some b = sym (beside k apart) ∙ at in
    let shares : b.state ≡ S = ⊎_elim (λ s. s) (λ (owns : b.state ≢ S). absurd (no_owner k (is.owner k b was owns))) (cases_S b.state) in
    (shares, is.clean k b was (s_not_m b.state shares))) (cases_eq k h))
  where
    on : (b : Bool) → (b || true) ≡ true
    on true = refl
    on false = refl

    off : (b : Bool) → (b || false) ≡ b
    off true = refl
    off false = refl
