-- A name is sought among those of one beginning alone: all others are told from it by a test.
use Rattle.std.proofs.Common.{◌≡◌, ◌==◌, ℕ, ◌<◌, ◌&&◌, Bool, true, false, List, [], ◌∷◌, ◌++◌, length, take, refl, sym, ◌∙◌, ap, arith}
use Rattle.std.specs.Prelude.{None, Some, not, nat_le, codes, slice_index, if◌then◌else◌}
use Rattle.std.specs.List.{list_all, list_any}
use Rattle.std.specs.Str.{bytes_eq}
use Rattle.std.proofs.lemmas.Bool.Decides.{nat_tests}
use Rattle.std.proofs.lemmas.Slice.Eq.{bytes_eq-Decides}
use Rattle.rv32_dis.specs.declared.mnemonic.Mnemonic.{Mnemonic}
use Rattle.rv32_dis.specs.Mnemonics.{name_of}
use Rattle.rv32_dis.specs.Naming.{named_in}

-- what passes a test has no name that doesn't
pub apart : (p : List ℕ → Bool) (ms : List Mnemonic) (name : List ℕ) → list_all (λ m. not (p (name_of m))) ms ≡ true → p name ≡ true → named_in ms name ≡ None
apart p [] name all passes = refl
apart p (m ∷ ms) name all passes = go (bytes_eq name (name_of m)) (p (name_of m)) refl refl all (apart p ms name)
  where
    go : (b q : Bool) → bytes_eq name (name_of m) ≡ b → p (name_of m) ≡ q → (not q && list_all (λ n. not (p (name_of n))) ms) ≡ true
        → (list_all (λ n. not (p (name_of n))) ms ≡ true → p name ≡ true → named_in ms name ≡ None) → (if b then Some m else named_in ms name) ≡ None
    go b true is fails all later = absurd (cc)
    go true false is fails all later = absurd (let same : p name ≡ false = ap p ((bytes_eq-Decides name (name_of m)).0 is) ∙ fails in cc)
    go false false is fails all later = later all passes

-- what isn't among the later ones is sought among the first ones
pub among_first : (first later : List Mnemonic) (name : List ℕ) → named_in later name ≡ None → named_in first name ≡ named_in (first ++ later) name
among_first [] later name none = sym none
among_first (m ∷ first) later name none = ap (λ found. if bytes_eq name (name_of m) then Some m else found) (among_first first later name none)

-- a name that begins with `a` is no atomic's
abbrev pub is_plain : List ℕ → Bool
is_plain name = bytes_eq (take 1 name) (codes "a") && not (nat_le 4 (length name) && bytes_eq (take 3 name) (codes "amo"))

a_begins : (name : List ℕ) → take 1 name ≡ codes "a" → bytes_eq (take 1 name) (codes "a") ≡ true
a_begins name begins = (bytes_eq-Decides (take 1 name) (codes "a")).1 begins

pub plain_short : (name : List ℕ) → take 1 name ≡ codes "a" → length name < 4 → is_plain name ≡ true
plain_short name begins short =
    let few : nat_le 4 (length name) ≡ false = grind (arith, nat_tests) in
    rw (a_begins name begins, few) refl

pub plain_other : (name : List ℕ) → take 1 name ≡ codes "a" → bytes_eq (take 3 name) (codes "amo") ≡ false → is_plain name ≡ true
plain_other name begins other = go (nat_le 4 (length name))
  where
    go : (long : Bool) → (bytes_eq (take 1 name) (codes "a") && not (long && bytes_eq (take 3 name) (codes "amo"))) ≡ true
    go true = rw (a_begins name begins, other) refl
    go false = rw (a_begins name begins) refl

-- no name begins with another letter than these
abbrev pub is_elsewhere : List ℕ → Bool
is_elsewhere name = not (list_any (λ letter. slice_index name 0 == letter) (codes "abdefjlmorsx"))
