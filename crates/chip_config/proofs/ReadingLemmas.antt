-- What reading a configuration uses of its definitions.
use Rattle.std.proofs.Common.{◌≡◌, ℕ, ◌+◌, ◌%◌, ◌<◌, ◌≤◌, ◌&&◌, ◌||◌, Bool, true, false, List, [], ◌∷◌, ◌++◌, length, take, drop, get_or, map, suc, refl, sym, ◌∙◌, ap, arith, add-one, drop-cons, append_assoc, append-nil, set}
use Rattle.std.specs.Prelude.{Some, None, String, string_bytes, if◌then◌else◌, is_some, unwrap_or}
use Rattle.std.specs.List.{list_any}
use Rattle.std.specs.Str.{bytes_eq}
use Rattle.std.specs.declared.alloc.Global.{Global}
use Rattle.std.proofs.lemmas.List.{drop_all, take_all, take_more_set}
use Rattle.std.proofs.lemmas.Bool.Decides.{nat_tests}
use Rattle.serde_json.specs.declared.value.Value.{Value}
use Rattle.serde_json.specs.Data.{Data}
use Rattle.serde_json.specs.Find.{get}
use Rattle.serde_json.specs.View.{members_view}
use Rattle.chip_config.specs.declared.keys.Entry.{Entry}
use Rattle.chip_config.specs.declared.fault.ConfigFault.TheVariants.{NotNumber, OutOfRange}
use Rattle.chip_config.specs.Keys.{Key, keys, keys_from, is_key, within}
use Rattle.chip_config.specs.Settings.{are_keys, first_outside, first_without, is_memory, memory_fault, number_at_key, number_or, Settings}

-- names that are keys
abbrev pub are_names : List (String Global) → Bool
are_names [] = true
are_names (name ∷ rest) = is_key (string_bytes name) && are_names rest

-- those of an object's members
pub names_of_members : (ms : List (String Global × Value)) → are_names (map (λ m. m.0) ms) ≡ are_keys (members_view ms)
names_of_members [] = refl
names_of_members (m ∷ ms) = ap (λ b. is_key (string_bytes m.0) && b) (names_of_members ms)

-- a name in the code's table
pub named : (table : List Entry) (number : ℕ) (name : List ℕ) → list_any (λ (e : Entry). bytes_eq e.name.now name) table ≡ list_any (λ (k : Key). bytes_eq k.name name) (keys_from number table)
named [] number name = refl
named (e ∷ table) number name = ap (λ b. bytes_eq e.name.now name || b) (named table (number + 1) name)

length_keys_from : (table : List Entry) (number : ℕ) → length (keys_from number table) ≡ length table
length_keys_from [] number = refl
length_keys_from (e ∷ table) number = ap suc (length_keys_from table (number + 1))

length_keys : length keys ≡ 16
unfolding keys
length_keys = refl

-- the code's table has sixteen entries
pub length_table : (table : List Entry) → keys_from 1 table ≡ keys → length table ≡ 16
length_table table is = sym (length_keys_from table 1) ∙ ap length is ∙ length_keys

-- memory with no fault
pub memory_fine : (s : Settings) → s.mem_base + s.mem_bytes ≤ 4294967296 → s.mem_base % s.line_bytes ≡ 0
    → s.mem_bytes % s.line_bytes ≡ 0 → memory_fault s ≡ None
memory_fine s ends whole_base whole_bytes =
    let is : is_memory s ≡ true = grind (arith, nat_tests) in rw is refl

-- a list from a place on
pub drop_more : {A : Type 0} (xs : List A) (i : ℕ) (d : A) → i < length xs → drop i xs ≡ get_or xs i d ∷ drop (i + 1) xs
drop_more xs i d below = rw add-one (drop-cons xs i d below)

-- the range of the key at a place
outside_at : (table : List Entry) (numbers : List ℕ) (i : ℕ) (d : Entry) → i < length table → i < length numbers → first_outside (keys_from (i + 1) (drop i table)) (drop i numbers) ≡ (if within (get_or table i d).range (get_or numbers i 0) then first_outside (keys_from (i + 1 + 1) (drop (i + 1) table)) (drop (i + 1) numbers) else Some (OutOfRange (i + 1) (get_or numbers i 0)))
outside_at table numbers i d here also =
    ap (λ (rest : List Entry). first_outside (keys_from (i + 1) rest) (drop i numbers)) (drop_more table i d here)
    ∙ ap (λ (rest : List ℕ). first_outside (keys_from (i + 1) (get_or table i d ∷ drop (i + 1) table)) rest) (drop_more numbers i 0 also)

pub outside_here : (table : List Entry) (numbers : List ℕ) (i : ℕ) (d : Entry) → i < length table → i < length numbers → within (get_or table i d).range (get_or numbers i 0) ≡ false → first_outside (keys_from (i + 1) (drop i table)) (drop i numbers) ≡ Some (OutOfRange (i + 1) (get_or numbers i 0))
outside_here table numbers i d here also is = outside_at table numbers i d here also ∙ rw is refl

pub outside_later : (table : List Entry) (numbers : List ℕ) (i : ℕ) (d : Entry) → i < length table → i < length numbers → within (get_or table i d).range (get_or numbers i 0) ≡ true → first_outside (keys_from (i + 1) (drop i table)) (drop i numbers) ≡ first_outside (keys_from (i + 1 + 1) (drop (i + 1) table)) (drop (i + 1) numbers)
outside_later table numbers i d here also is = outside_at table numbers i d here also ∙ rw is refl

-- the number of the key at a place
without_at : (value : Data) (table : List Entry) (i : ℕ) (d : Entry) → i < length table → first_without value (keys_from (i + 1) (drop i table)) ≡ (if is_some (number_or (get_or table i d).default (get (get_or table i d).name.now value)) then first_without value (keys_from (i + 1 + 1) (drop (i + 1) table)) else Some (NotNumber (i + 1)))
without_at value table i d here = ap (λ (rest : List Entry). first_without value (keys_from (i + 1) rest)) (drop_more table i d here)

pub without_later : (value : Data) (table : List Entry) (i n : ℕ) (d : Entry) → i < length table → number_or (get_or table i d).default (get (get_or table i d).name.now value) ≡ Some n → first_without value (keys_from (i + 1) (drop i table)) ≡ first_without value (keys_from (i + 1 + 1) (drop (i + 1) table))
without_later value table i n d here is = without_at value table i d here ∙ rw is refl

pub written_more : (value : Data) (table : List Entry) (numbers : List ℕ) (i n : ℕ) (d : Entry) → i < length table → i < length numbers → number_or (get_or table i d).default (get (get_or table i d).name.now value) ≡ Some n → take (i + 1) (set numbers i n) ++ map (number_at_key value) (keys_from (i + 1 + 1) (drop (i + 1) table)) ≡ take i numbers ++ map (number_at_key value) (keys_from (i + 1) (drop i table))
written_more value table numbers i n d here also is =
    let later = map (number_at_key value) (keys_from (i + 1 + 1) (drop (i + 1) table)) in
    ap (λ front. front ++ later) (take_more_set numbers i n also)
    ∙ append_assoc (take i numbers) (n ∷ []) later
    ∙ ap (λ m. take i numbers ++ unwrap_or m 0 ∷ later) (sym is)
    ∙ ap (λ (rest : List Entry). take i numbers ++ map (number_at_key value) (keys_from (i + 1) rest)) (sym (drop_more table i d here))

-- where the table ends
pub without_end : (value : Data) (table : List Entry) (i : ℕ) → i ≡ length table → first_without value (keys_from (i + 1) (drop i table)) ≡ None
without_end value table i is = ap (λ (rest : List Entry). first_without value (keys_from (i + 1) rest)) (drop_all i table (omega arith))

pub written_end : (value : Data) (table : List Entry) (numbers : List ℕ) (i : ℕ) → i ≡ length table → i ≡ length numbers → take i numbers ++ map (number_at_key value) (keys_from (i + 1) (drop i table)) ≡ numbers
written_end value table numbers i is also =
    ap (λ (rest : List Entry). take i numbers ++ map (number_at_key value) (keys_from (i + 1) rest)) (drop_all i table (omega arith))
    ∙ append-nil (take i numbers)
    ∙ take_all i numbers (omega arith)

-- a name in the code's table is a key
pub name_is : (table : List Entry) (name : List ℕ) → keys_from 1 table ≡ keys → list_any (λ (e : Entry). bytes_eq e.name.now name) table ≡ is_key name
name_is table name is = named table 1 name ∙ ap (λ (ks : List Key). list_any (λ (k : Key). bytes_eq k.name name) ks) is
