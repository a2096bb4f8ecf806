-- The options that words give, and those that a command takes.
use Rattle.std.specs.Prelude.{ℕ, Bool, true, false, not, ◌&&◌, ◌||◌, ◌==◌, List, [], ◌∷◌, Option, Some, None, slice_get, if◌then◌else◌, nat_le}
use Rattle.std.specs.List.{before_first, after_first, list_any, list_all}
use Rattle.std.specs.Option.{is_some}
use Rattle.std.specs.Str.{bytes_eq}
use Rattle.conda_base.specs.Digits.{is_numeral, number_after}
use Rattle.command_words.specs.declared.table.Kind.{Kind}
use Rattle.command_words.specs.declared.table.Kind.TheVariants as kind
use Rattle.command_words.specs.declared.table.KnownOption.{KnownOption}
use Rattle.command_words.specs.declared.options.FrontOption.{FrontOption}

-- ---- what words give

-- an option that words give
pub record Given : Type 0 where
  pub name : List ℕ
  pub value : List ℕ

-- the equals sign
abbrev pub is_equals : ℕ → Bool
is_equals b = b == 61

-- a word that holds an option's name and value
abbrev pub is_whole : List ℕ → Bool
is_whole word = list_any is_equals word

-- such a word, cut at the first equals sign
abbrev pub cut : List ℕ → Given
cut word = record { name = before_first is_equals word; value = after_first is_equals word }

-- a name and the word behind it
abbrev pub given_pair : List ℕ → List ℕ → Given
given_pair name value = record { name = name; value = value }

-- the options that words give, `name=value` or `name` and `value`: a name at the end has the empty
-- value
abbrev pub options_of : List (List ℕ) → List Given
options_of [] = []
options_of (word ∷ []) = (if is_whole word then cut word else given_pair word []) ∷ []
options_of (word ∷ next ∷ words) =
    if is_whole word then cut word ∷ options_of (next ∷ words)
    else given_pair word next ∷ options_of words

-- the values that options give a name
abbrev pub values_of : List ℕ → List Given → List (List ℕ)
values_of name [] = []
values_of name (option ∷ options) =
    if bytes_eq option.name name then option.value ∷ values_of name options
    else values_of name options

-- the first of them
abbrev pub first_value : List ℕ → List Given → Option (List ℕ)
first_value name options = slice_get (values_of name options) 0

-- an option at the front of some words
abbrev pub given : FrontOption → Given
given o = record { name = o.name.now; value = o.value.now }

-- ---- what a command takes

-- an option that a command takes: its name, whether it must stand, and what its value is
pub record Known : Type 0 where
  pub name : List ℕ
  pub is_needed : Bool
  pub kind : Kind

-- an option that a table has
abbrev pub known : KnownOption → Known
known o = record { name = o.name.now; is_needed = o.is_needed; kind = o.kind }

-- a name isn't empty and doesn't begin with a dash
abbrev pub is_value : List ℕ → Bool
is_value [] = false
is_value (b ∷ bs) = not (b == 45)

-- the number that a value is, where it lies in this range
abbrev pub number_within : ℕ → ℕ → List ℕ → Option ℕ
number_within from to value =
    if is_numeral value && nat_le from (number_after 0 value) && nat_le (number_after 0 value) to
    then Some (number_after 0 value) else None

-- the number of an option that stands once
abbrev pub one_number : ℕ → ℕ → List (List ℕ) → Option ℕ
one_number from to (value ∷ []) = number_within from to value
one_number from to other = None

-- a value of this kind: a file's name, or a number in its range
abbrev pub fits : Kind → List ℕ → Bool
fits kind.File value = is_value value
fits (kind.Number from to) value = is_some (number_within from to value)

abbrev pub takes : Given → Known → Bool
takes option known = bytes_eq option.name known.name && fits known.kind option.value

-- an option that the table has, with a value of its kind
abbrev pub is_option : List Known → Given → Bool
is_option table option = list_any (takes option) table

-- one value, or none where the option isn't needed
abbrev pub suits : Bool → List (List ℕ) → Bool
suits is_needed [] = not is_needed
suits is_needed (value ∷ []) = true
suits is_needed (value ∷ next ∷ values) = false

-- an option of the table stands once at most, and does stand if it is needed
abbrev pub has_place : List Given → Known → Bool
has_place options known = suits known.is_needed (values_of known.name options)

abbrev pub is_file_kind : Kind → Bool
is_file_kind kind.File = true
is_file_kind (kind.Number from to) = false

abbrev pub names_file : List ℕ → Known → Bool
names_file name known = bytes_eq name known.name && is_file_kind known.kind

-- the values of the options that name files
abbrev pub file_values : List Known → List Given → List (List ℕ)
file_values table [] = []
file_values table (option ∷ options) =
    if list_any (names_file option.name) table then option.value ∷ file_values table options
    else file_values table options

abbrev pub differs : List ℕ → List ℕ → Bool
differs a b = not (bytes_eq a b)

-- no two of the names are equal
abbrev pub are_different : List (List ℕ) → Bool
are_different [] = true
are_different (name ∷ names) = list_all (differs name) names && are_different names

-- The options are those that the table allows: each of them is one of the table's, each of the
-- table's has its place, and no two of them name one file.
abbrev pub are_options : List Known → List Given → Bool
are_options table options =
    list_all (is_option table) options
    && list_all (has_place options) table
    && are_different (file_values table options)
