-- What holds of each listed name holds of each instruction's.
use Rattle.std.proofs.Common.{◌≡◌, ℕ, ◌&&◌, Bool, true, false, List, [], ◌∷◌, refl, sym, ◌∙◌, ap}
use Rattle.std.specs.Prelude.{Some, if◌then◌else◌}
use Rattle.std.specs.List.{list_all}
use Rattle.std.specs.Str.{bytes_eq}
use Rattle.rv32_dis.specs.declared.mnemonic.Mnemonic.{Mnemonic}
use Rattle.rv32_dis.specs.declared.naming.TheConstants.{MNEMONICS}
use Rattle.rv32_dis.specs.Mnemonics.{name_of}
use Rattle.rv32_dis.specs.Naming.{named_in, mnemonic_in}
use Rattle.rv32_dis.proofs.NamingLemmas.{mnemonic_in_name}

both_true : (a b : Bool) → (a && b) ≡ true → (a ≡ true) × (b ≡ true)
both_true true b h = (refl, h)
both_true false b h = absurd (cc)

each_named : (p : Mnemonic → Bool) (ms : List Mnemonic) (name : List ℕ) (m : Mnemonic) → list_all p ms ≡ true → named_in ms name ≡ Some m → p m ≡ true
each_named p [] name m all h = absurd (cc)
each_named p (n ∷ ms) name m all h =
    go (bytes_eq name (name_of n)) h (both_true (p n) (list_all p ms) all) (each_named p ms name m)
  where
    go : (b : Bool) → (if b then Some n else named_in ms name) ≡ Some m → (p n ≡ true) × (list_all p ms ≡ true) → (list_all p ms ≡ true → named_in ms name ≡ Some m → p m ≡ true) → p m ≡ true
    go true same both later = let one : n ≡ m = cc in ap p (sym one) ∙ both.0
    go false same both later = later both.1 same

pub every_mnemonic : (p : Mnemonic → Bool) (m : Mnemonic) → list_all p MNEMONICS ≡ true → p m ≡ true
unfolding mnemonic_in
every_mnemonic p m all = each_named p MNEMONICS (name_of m) m all (mnemonic_in_name m)
