-- From numbers in range to a configuration, and from bytes to data.
use Rattle.std.proofs.Common.{◌≡◌, ℕ, ◌%◌, ◌<◌, ◌≤◌, ◌==◌, ◌&&◌, Bool, true, false, List, [], ◌∷◌, length, get_or, zero, suc, refl, sym, ◌∙◌, ap, arith, inr}
use Rattle.std.specs.Prelude.{Option, Some, None, Result, Ok, Err, IfOk, IfErr, MatchResult, IsTrue, IsUtf8, ◌⊎◌, nat_le}
use Rattle.std.specs.Int.{is_power_of_two}
use Rattle.std.specs.Str.{is_utf8}
use Rattle.std.proofs.lemmas.Str.{IsUtf8-from_is_utf8, is_utf8-from_IsUtf8}
use Rattle.std.proofs.lemmas.Bool.Decides.{nat_tests}
use lib.Count.{ones}
use Rattle.serde_json.specs.Data.{Data, Members}
use Rattle.serde_json.specs.Find.{as_object}
use Rattle.serde_json.specs.Read.{read as read_text}
use Rattle.chip_config.specs.declared.config.Config.{Config}
use Rattle.chip_config.specs.declared.fault.ConfigFault.{ConfigFault}
use Rattle.chip_config.specs.declared.fault.ConfigFault.TheVariants as Fault_is
use Rattle.chip_config.specs.declared.keys.Range.TheVariants.{Between, PowerUpTo, MultipleOf64}
use Rattle.chip_config.specs.Keys.{Key, keys, within, harts}
use Rattle.chip_config.specs.Settings.{are_keys, configured, data_of, first_outside, first_without, memory_fault, numbers_of, settings, settings_at, settings_in, settings_of, unless_fault, AreRanged, Settings}

and_true : (a b : Bool) → (a && b) ≡ true → (a ≡ true) × (b ≡ true)
and_true true b h = (refl, h)
and_true false b h = absurd (cc)

-- where none is outside, each number is in its key's range
within_at : (ks : List Key) (numbers : List ℕ) (i : ℕ) (d : Key) → first_outside ks numbers ≡ None → i < length ks → i < length numbers → within (get_or ks i d).range (get_or numbers i 0) ≡ true
within_at [] numbers i d none here also = absurd (omega arith)
within_at (k ∷ ks) [] i d none here also = absurd (omega arith)
within_at (k ∷ ks) (n ∷ numbers) i d none here also = go (λ j. within_at ks numbers j d) (within k.range n) refl i here also
  where
    go : ((j : ℕ) → first_outside ks numbers ≡ None → j < length ks → j < length numbers → within (get_or ks j d).range (get_or numbers j 0) ≡ true) → (b : Bool) → within k.range n ≡ b → (i : ℕ) → i < length (k ∷ ks) → i < length (n ∷ numbers) → within (get_or (k ∷ ks) i d).range (get_or (n ∷ numbers) i 0) ≡ true
    go later true is zero here also = is
    go later true is (suc j) here also = later j (rw is at none) (omega arith) (omega arith)
    go later false is i here also = let never : Some (Fault_is.OutOfRange k.number n) ≡ None = rw is at none in absurd (cc)

-- what each range says
between : (low high n : ℕ) → within (Between low high) n ≡ true → (low ≤ n) × (n ≤ high)
between low high n is = let both = and_true (nat_le low n) (nat_le n high) is in (grind (arith, nat_tests, both.0), grind (arith, nat_tests, both.1))

above_zero : (n : ℕ) → is_power_of_two n ≡ true → 1 ≤ n
unfolding ones
above_zero zero is = let never : false ≡ true = is in absurd (cc)
above_zero (suc n) is = omega arith

power_up_to : (high n : ℕ) → within (PowerUpTo high) n ≡ true → IsTrue (is_power_of_two n) × (1 ≤ n) × (n ≤ high)
power_up_to high n is = let both = and_true (is_power_of_two n) (nat_le n high) is in (both.0, above_zero n both.0, grind (arith, nat_tests, both.1))

multiple : (low high n : ℕ) → within (MultipleOf64 low high) n ≡ true → (n % 64 ≡ 0) × (low ≤ n) × (n ≤ high)
multiple low high n is =
    let both = and_true ((n % 64 == 0) && nat_le low n) (nat_le n high) is in
    let front = and_true (n % 64 == 0) (nat_le low n) both.0 in
    (grind (arith, nat_tests, front.0), grind (arith, nat_tests, front.1), grind (arith, nat_tests, both.1))

-- sixteen numbers of which none is outside are in their ranges
pub ranged : (n : List ℕ) → length n ≡ 16 → first_outside keys n ≡ None → AreRanged (settings_at n)
unfolding keys
ranged n long none =
    let base = multiple 0 4294967232 (get_or n 2 0) (within_at keys n 2 harts none (omega arith) (omega arith)) in
    let bytes = multiple 4096 67108864 (get_or n 3 0) (within_at keys n 3 harts none (omega arith) (omega arith)) in
    record {
      harts = between 1 8 (get_or n 0 0) (within_at keys n 0 harts none (omega arith) (omega arith));
      cores = between 1 4 (get_or n 1 0) (within_at keys n 1 harts none (omega arith) (omega arith));
      mem_base = (base.0, base.2);
      mem_bytes = bytes;
      hart_sets = power_up_to 256 (get_or n 4 0) (within_at keys n 4 harts none (omega arith) (omega arith));
      hart_ways = between 1 8 (get_or n 5 0) (within_at keys n 5 harts none (omega arith) (omega arith));
      core_sets = power_up_to 64 (get_or n 6 0) (within_at keys n 6 harts none (omega arith) (omega arith));
      core_ways = between 1 8 (get_or n 7 0) (within_at keys n 7 harts none (omega arith) (omega arith));
      sig_bits = between 1 10 (get_or n 8 0) (within_at keys n 8 harts none (omega arith) (omega arith));
      read_limit = between 1 4096 (get_or n 9 0) (within_at keys n 9 harts none (omega arith) (omega arith));
      write_limit = between 1 4096 (get_or n 10 0) (within_at keys n 10 harts none (omega arith) (omega arith));
      portion_max = between 1 65536 (get_or n 11 0) (within_at keys n 11 harts none (omega arith) (omega arith));
      out_max = between 1 64 (get_or n 12 0) (within_at keys n 12 harts none (omega arith) (omega arith));
      retries = (between 0 255 (get_or n 13 0) (within_at keys n 13 harts none (omega arith) (omega arith))).1;
      trace_last = between 1 65536 (get_or n 14 0) (within_at keys n 14 harts none (omega arith) (omega arith));
      line_bytes = within_at keys n 15 harts none (omega arith) (omega arith);
    }

-- the numbers of data are sixteen
pub sixteen_numbers : (value : Data) → length (numbers_of value) ≡ 16
unfolding keys
sixteen_numbers value = refl

judged_all : (value : Data) (members : Members) → as_object value ≡ Some members → are_keys members ≡ true → first_without value keys ≡ None
    → first_outside keys (numbers_of value) ≡ None → settings_of value ≡ unless_fault (memory_fault (settings_in value)) (settings_in value)
judged_all value members object known each inside = rw object (rw known (rw each (rw inside refl)))

-- data with no other fault is judged by its memory
pub judged : (value : Data) (members : Members) (n : List ℕ) → as_object value ≡ Some members → are_keys members ≡ true → first_without value keys ≡ None
    → n ≡ numbers_of value → first_outside keys n ≡ None → settings_of value ≡ unless_fault (memory_fault (settings_at n)) (settings_at n)
judged value members n object known each is inside =
    judged_all value members object known each (ap (first_outside keys) (sym is) ∙ inside)
    ∙ ap (λ (m : List ℕ). unless_fault (memory_fault (settings_at m)) (settings_at m)) (sym is)

pub answer_of : (value : Data) (fault : Option ConfigFault) (n : Settings) (r : Result Config ConfigFault) → settings_of value ≡ unless_fault fault n → MatchResult r (λ c. (fault ≡ None) × (settings c ≡ n)) (λ f. fault ≡ Some f) → MatchResult r (λ c. settings_of value ≡ Ok (settings c)) (λ f. settings_of value ≡ Err f)
answer_of value fault n (Ok c) is h = is ∙ ap (λ f. unless_fault f n) h.0 ∙ ap Ok (sym h.1)
answer_of value fault n (Err f) is h = is ∙ ap (λ g. unless_fault g n) h

pub data_is : (bytes : List ℕ) (value : Data) → IsUtf8 bytes → read_text bytes ≡ Some value → data_of bytes ≡ Some value
data_is bytes value text is = rw (is_utf8-from_IsUtf8 bytes text) is

pub configured_is : (bytes : List ℕ) (value : Data) → IsUtf8 bytes → read_text bytes ≡ Some value → configured bytes ≡ settings_of value
unfolding configured
configured_is bytes value text is = rw (data_is bytes value text is) refl

pub not_json : (bytes : List ℕ) → (IsUtf8 bytes → read_text bytes ≡ None) → configured bytes ≡ Err Fault_is.NotJson
unfolding configured
not_json bytes none = go (is_utf8 bytes) refl
  where
    go : (b : Bool) → is_utf8 bytes ≡ b → configured bytes ≡ Err Fault_is.NotJson
    go true is = rw is (rw (none (IsUtf8-from_is_utf8 bytes is)) refl)
    go false is = rw is refl

-- what the answer for data says of the bytes
pub ok_is : (bytes : List ℕ) (value : Data) (r : Result Config ConfigFault) → configured bytes ≡ settings_of value → MatchResult r (λ c. settings_of value ≡ Ok (settings c)) (λ f. settings_of value ≡ Err f) → IfOk r (λ c. configured bytes ≡ Ok (settings c))
ok_is bytes value (Ok c) is h = is ∙ h
ok_is bytes value (Err f) is h = tt

pub err_is : (bytes : List ℕ) (value : Data) (r : Result Config ConfigFault) → configured bytes ≡ settings_of value → MatchResult r (λ c. settings_of value ≡ Ok (settings c)) (λ f. settings_of value ≡ Err f) → IfErr r (λ f. (f ≡ Fault_is.OutOfMemory) ⊎ (configured bytes ≡ Err f))
err_is bytes value (Ok c) is h = tt
err_is bytes value (Err f) is h = inr (is ∙ h)
