-- The values of options.
use Rattle.std.proofs.Common.{◌≡◌, ◌≤◌, ℕ, List, [], ◌∷◌, true, false, refl, sym, ◌∙◌, subst, ◌&&◌, arith}
use Rattle.std.specs.Prelude.{◌≢◌, Bool, Option, Some, None, IfSome, unwrap_or, slice_get, nat_le}
use Rattle.std.specs.Option.{is_some}
use Rattle.std.specs.List.{list_any, list_all}
use Rattle.std.specs.Str.{bytes_eq}
use Rattle.std.proofs.lemmas.Bool.Decides.{nat_tests}
use Rattle.std.proofs.lemmas.Option.{cond_some}
use Rattle.std.proofs.lemmas.Slice.Eq.{bytes_eq-Decides}
use Rattle.conda_base.specs.Digits.{is_numeral, number_after}
use Rattle.command_words.specs.declared.table.Kind.{Kind}
use Rattle.command_words.specs.Options.{Given, Known, are_different, differs, file_values, fits, is_option, names_file, number_within, one_number, given_pair, suits, first_value, values_of}
use Rattle.command_words.specs.Words.{name_in}

-- both parts of a test that passes
pub both : (a b : Bool) → (a && b) ≡ true → (a ≡ true) × (b ≡ true)
both true b h = (refl, h)
both false b h = cc

pub names_same : (a b : List ℕ) → bytes_eq a b ≡ true → a ≡ b
names_same a b h = (bytes_eq-Decides a b).0 h

same_names : (a b : List ℕ) → a ≡ b → bytes_eq a b ≡ true
same_names a b h = (bytes_eq-Decides a b).1 h

-- two names that differ
pub differ_apart : (a b : List ℕ) → differs a b ≡ true → a ≢ b
differ_apart a b h e = let turned : false ≡ true = rw (same_names a b e) at h in cc

-- ---- names of files

-- what holds of all names of files holds of those of one option
all_have : (P : List ℕ → Bool) (table : List Known) (name : List ℕ) → list_any (names_file name) table ≡ true → (options : List Given)
    → list_all P (file_values table options) ≡ true → list_all P (values_of name options) ≡ true
all_have P table name file [] h = refl
all_have P table name file (o ∷ os) h = go (all_have P table name file os) (bytes_eq o.name name) refl
  where
    names_it : bytes_eq o.name name ≡ true → list_any (names_file o.name) table ≡ true
    names_it e = subst (λ n. list_any (names_file n) table ≡ true) (sym (names_same o.name name e)) file

    rest : (t : Bool) → list_any (names_file o.name) table ≡ t → list_all P (file_values table os) ≡ true
    rest true e = let h' : list_all P (o.value ∷ file_values table os) ≡ true = rw e at h in (both (P o.value) (list_all P (file_values table os)) h').1
    rest false e = rw e at h

    go : (list_all P (file_values table os) ≡ true → list_all P (values_of name os) ≡ true) → (t : Bool) → bytes_eq o.name name ≡ t → list_all P (values_of name (o ∷ os)) ≡ true
    go later true e =
        let h' : list_all P (o.value ∷ file_values table os) ≡ true = rw (names_it e) at h in
        let parts = both (P o.value) (list_all P (file_values table os)) h' in
        rw e (rw parts.0 (later parts.1))
    go later false e = rw e (later (rest (list_any (names_file o.name) table) refl))

only_one : (P : List ℕ → Bool) (values : List (List ℕ)) (x : List ℕ) → values ≡ x ∷ [] → list_all P values ≡ true → P x ≡ true
only_one P values x e h = let h' : (P x && true) ≡ true = rw e at h in (both (P x) true h').0

-- the names of two options that name files differ
pub apart : (table : List Known) (a b : List ℕ) → list_any (names_file a) table ≡ true → list_any (names_file b) table ≡ true → bytes_eq a b ≡ false → (options : List Given) (x y : List ℕ)
    → values_of a options ≡ x ∷ [] → values_of b options ≡ y ∷ [] → are_different (file_values table options) ≡ true → x ≢ y
apart table a b fa fb ab [] x y ha hb h = cc
apart table a b fa fb ab (o ∷ os) x y ha hb h = go (apart table a b fa fb ab os x y) (bytes_eq o.name a) refl
  where
    named : (n : List ℕ) → list_any (names_file n) table ≡ true → bytes_eq o.name n ≡ true → are_different (o.value ∷ file_values table os) ≡ true
    named n file e =
        let is = subst (λ m. list_any (names_file m) table ≡ true) (sym (names_same o.name n e)) file in
        rw is at h

    all_differ : (n : List ℕ) → list_any (names_file n) table ≡ true → bytes_eq o.name n ≡ true → list_all (differs o.value) (file_values table os) ≡ true
    all_differ n file e = (both (list_all (differs o.value) (file_values table os)) (are_different (file_values table os)) (named n file e)).0

    rest : (t : Bool) → list_any (names_file o.name) table ≡ t → are_different (file_values table os) ≡ true
    rest true e =
        let h' : are_different (o.value ∷ file_values table os) ≡ true = rw e at h in
        (both (list_all (differs o.value) (file_values table os)) (are_different (file_values table os)) h').1
    rest false e = rw e at h

    first : (n : List ℕ) (v : List ℕ) → bytes_eq o.name n ≡ true → values_of n (o ∷ os) ≡ v ∷ [] → o.value ∷ values_of n os ≡ v ∷ []
    first n v e hv = rw e at hv

    later : (n : List ℕ) (v : List ℕ) → bytes_eq o.name n ≡ false → values_of n (o ∷ os) ≡ v ∷ [] → values_of n os ≡ v ∷ []
    later n v e hv = rw e at hv

    not_both : bytes_eq o.name a ≡ true → bytes_eq o.name b ≡ false
    not_both e = subst (λ m. bytes_eq m b ≡ false) (sym (names_same o.name a e)) ab

    second : (values_of a os ≡ x ∷ [] → values_of b os ≡ y ∷ [] → are_different (file_values table os) ≡ true → x ≡ y → ⊥)
        → (t : Bool) → bytes_eq o.name b ≡ t → bytes_eq o.name a ≡ false → (x ≡ y → ⊥)
    second behind true e other = λ same.
        let is : o.value ≡ y = let l = first b y e hb in cc in
        let apart_from = only_one (differs o.value) (values_of a os) x (later a x other ha) (all_have (differs o.value) table a fa os (all_differ b fb e)) in
        differ_apart o.value x apart_from (is ∙ sym same)
    second behind false e other = behind (later a x other ha) (later b y e hb) (rest (list_any (names_file o.name) table) refl)

    go : (values_of a os ≡ x ∷ [] → values_of b os ≡ y ∷ [] → are_different (file_values table os) ≡ true → x ≡ y → ⊥)
        → (t : Bool) → bytes_eq o.name a ≡ t → (x ≡ y → ⊥)
    go behind true e = λ same.
        let is : o.value ≡ x = let l = first a x e ha in cc in
        let apart_from = only_one (differs o.value) (values_of b os) y (later b y (not_both e) hb) (all_have (differs o.value) table b fb os (all_differ a fa e)) in
        differ_apart o.value y apart_from (is ∙ same)
    go behind false e = second behind (bytes_eq o.name b) refl e

-- an option that must stand has one value
pub record HasOne (values : List (List ℕ)) : Type 0 where
  pub value : List ℕ
  pub only : values ≡ value ∷ []

pub one_of : (values : List (List ℕ)) → suits true values ≡ true → HasOne values
one_of [] h = cc
one_of (v ∷ []) h = record { value = v; only = refl }
one_of (v ∷ w ∷ vs) h = cc

name_is : (name : List ℕ) (options : List Given) (v : List ℕ) → values_of name options ≡ v ∷ [] → v ≡ name_in name options
name_is name options v h = rw h refl

-- those of two options that must stand
pub apart_needed : (table : List Known) (a b : List ℕ) → list_any (names_file a) table ≡ true → list_any (names_file b) table ≡ true → bytes_eq a b ≡ false → (options : List Given)
    → suits true (values_of a options) ≡ true → suits true (values_of b options) ≡ true → are_different (file_values table options) ≡ true → name_in a options ≢ name_in b options
apart_needed table a b fa fb ab options ha hb h same =
    let one = one_of (values_of a options) ha in
    let other = one_of (values_of b options) hb in
    apart table a b fa fb ab options one.value other.value one.only other.only h
    (name_is a options one.value one.only ∙ same ∙ sym (name_is b options other.value other.only))

-- and of one that may be left out
pub apart_free : (table : List Known) (a b : List ℕ) → list_any (names_file a) table ≡ true → list_any (names_file b) table ≡ true → bytes_eq a b ≡ false → (options : List Given)
    → suits true (values_of a options) ≡ true → suits false (values_of b options) ≡ true → are_different (file_values table options) ≡ true
    → IfSome (first_value b options) (λ other. name_in a options ≢ other)
apart_free table a b fa fb ab options ha hb h = go (values_of b options) refl
  where
    go : (values : List (List ℕ)) → values_of b options ≡ values → IfSome (first_value b options) (λ other. name_in a options ≢ other)
    go [] e = rw e tt
    go (v ∷ []) e = rw e (λ same.
        let one = one_of (values_of a options) ha in
        apart table a b fa fb ab options one.value v one.only e h (name_is a options one.value one.only ∙ same))
    go (v ∷ w ∷ vs) e = let no : false ≡ true = rw e at hb in cc

-- ---- numbers

-- the values of an option are of its kind
pub of_kind : (table : List Known) (name : List ℕ) (k : Kind) → ((value : List ℕ) → is_option table (given_pair name value) ≡ true → fits k value ≡ true) → (options : List Given)
    → list_all (is_option table) options ≡ true → list_all (fits k) (values_of name options) ≡ true
of_kind table name k fit [] h = refl
of_kind table name k fit (o ∷ os) h =
    let parts = both (is_option table o) (list_all (is_option table) os) h in
    go parts.0 (of_kind table name k fit os parts.1) (bytes_eq o.name name) refl
  where
    go : is_option table o ≡ true → list_all (fits k) (values_of name os) ≡ true → (t : Bool) → bytes_eq o.name name ≡ t → list_all (fits k) (values_of name (o ∷ os)) ≡ true
    go here later true e =
        let is = fit o.value (subst (λ n. is_option table (given_pair n o.value) ≡ true) (names_same o.name name e) here) in
        rw e (rw is later)
    go here later false e = rw e later

-- what a number in a range says
pub record IsNumber (from to n : ℕ) (value : List ℕ) : Type 0 where
  pub number : number_after 0 value ≡ n
  pub low : from ≤ n
  pub high : n ≤ to

pub number_of : (from to n : ℕ) (value : List ℕ) → number_within from to value ≡ Some n → IsNumber from to n value
number_of from to n value h =
    let all = number_after 0 value in
    let taken = cond_some (is_numeral value && nat_le from all && nat_le all to) all n h in
    let parts = both (is_numeral value && nat_le from all) (nat_le all to) taken.0 in
    let low = (both (is_numeral value) (nat_le from all) parts.0).1 in
    let high = parts.1 in
    record { number = taken.1; low = subst (λ m. from ≤ m) taken.1 (grind (arith, nat_tests)); high = subst (λ m. m ≤ to) taken.1 (grind (arith, nat_tests)) }

-- the number of an option that stands once
pub record IsOneNumber (from to n : ℕ) (values : List (List ℕ)) : Type 0 where
  pub value : List ℕ
  pub only : values ≡ value ∷ []
  pub is : IsNumber from to n value

pub one_number_is : (from to n : ℕ) (values : List (List ℕ)) → one_number from to values ≡ Some n → IsOneNumber from to n values
one_number_is from to n [] h = cc
one_number_is from to n (v ∷ []) h = record { value = v; only = refl; is = number_of from to n v h }
one_number_is from to n (v ∷ w ∷ vs) h = cc

-- the number of an option that must stand, where its values are in the range
pub in_range : (from to : ℕ) (values : List (List ℕ)) → suits true values ≡ true → list_all (λ v. is_some (number_within from to v)) values ≡ true
    → (from ≤ number_after 0 (unwrap_or (slice_get values 0) [])) × (number_after 0 (unwrap_or (slice_get values 0) []) ≤ to)
in_range from to [] h fit = cc
in_range from to (v ∷ []) h fit = go (number_within from to v) refl
  where
    go : (o : Option ℕ) → number_within from to v ≡ o → (from ≤ number_after 0 v) × (number_after 0 v ≤ to)
    go None e = let no : false ≡ true = rw e at fit in cc
    go (Some n) e = let is = number_of from to n v e in (subst (λ m. from ≤ m) (sym is.number) is.low, subst (λ m. m ≤ to) (sym is.number) is.high)
in_range from to (v ∷ w ∷ vs) h fit = cc

-- where there is none, the option doesn't stand once
pub no_number : (from to : ℕ) (values : List (List ℕ)) → list_all (λ v. is_some (number_within from to v)) values ≡ true → one_number from to values ≡ None → suits true values ≡ false
no_number from to [] all h = refl
no_number from to (v ∷ []) all h = let no : false ≡ true = rw h at all in cc
no_number from to (v ∷ w ∷ vs) all h = refl
