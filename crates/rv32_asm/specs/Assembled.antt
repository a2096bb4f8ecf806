-- The program of a source, or its first bad line.
use Rattle.std.specs.Prelude.{ℕ, ◌≡◌, ◌+◌, ◌-◌, ◌*◌, ◌%◌, ◌^◌, ◌==◌, ◌&&◌, ◌||◌, not, ℤ, pos, negsuc, Bool, false, List, [], ◌∷◌, ◌++◌, Option, Some, None, if◌then◌else◌, nat_le, nat_lt}
use Rattle.std.specs.Option.{option_map, is_none, is_some}
use Rattle.std.specs.Str.{bytes_eq}
use Rattle.conda_base.specs.Digits.{number_after}
use Rattle.rv32_decode.specs.declared.instr.Instr.{Instr}
use Rattle.rv32_decode.specs.declared.instr.Instr.TheVariants.{Lui, Auipc, Jal, Jalr, Branch, Load, Store, Imm, Reg, Amo, Fence, Ecall, Ebreak}
use Rattle.rv32_decode.specs.Encoding.{encoded, is_shift}
use Rattle.rv32_asm.specs.declared.limits.TheConstants.{DEFAULT_ADDRESS, MOST_WORDS}
use Rattle.rv32_asm.specs.declared.place.Place.{Place}
use Rattle.rv32_asm.specs.declared.place.BadLine.{BadLine}
use Rattle.rv32_asm.specs.Pieces.{text_lines}
use Rattle.rv32_asm.specs.Grammar.{is_name, with_imm, Said, At, Word, Does, LineSaid, Says}

-- what the lines of a text say, None for a line that isn't of the form
abbrev pub Source : Type 0
Source = List (Option LineSaid)

abbrev pub IsSource : List (List ℕ) → Source → Type 0
IsSource [] [] = Unit {0}
IsSource (line ∷ lines) (said ∷ source) = Says line said × IsSource lines source
IsSource [] (said ∷ source) = ⊥
IsSource (line ∷ lines) [] = ⊥

-- a line that isn't of the form has no label and no statement
abbrev pub label_of : Option LineSaid → Option (List ℕ)
label_of None = None
label_of (Some line) = line.label

abbrev pub said_of : Option LineSaid → Option Said
said_of None = None
said_of (Some line) = line.statement

-- every statement but `.at` makes a word
abbrev pub words_by : Option Said → ℕ
words_by None = 0
words_by (Some (At number)) = 0
words_by (Some (Word digits)) = 1
words_by (Some (Does i text)) = 1

-- A line's place: its number, the number of words before it, and whether a statement stands before it. The first
-- line's, and that of the line after one.
abbrev pub first_place : Place
first_place = record { line = 1; words = 0; begun = false }

abbrev pub next_place : Place → Option LineSaid → Place
next_place p line =
    record { line = p.line + 1; words = p.words + words_by (said_of line); begun = p.begun || is_some (said_of line) }

abbrev pub has_label : List ℕ → Option (List ℕ) → Bool
has_label name None = false
has_label name (Some label) = bytes_eq label name

-- the place of the first line with this label
abbrev pub place_from : Place → Source → List ℕ → Option Place
place_from p [] name = None
place_from p (line ∷ source) name =
    if has_label name (label_of line) then Some p else place_from (next_place p line) source name

abbrev pub label_place : Source → List ℕ → Option Place
label_place source name = place_from first_place source name

-- a multiple of 4 up to 4294967292
abbrev pub is_address : List ℕ → Bool
is_address digits = number_after 0 digits % 4 == 0 && nat_le (number_after 0 digits) 4294967292

-- the address of the first word: that of the first statement, where this is a good `.at`, and else the default
abbrev pub address_by : Option Said → ℕ → ℕ
address_by None later = later
address_by (Some (At digits)) later = if is_address digits then number_after 0 digits else DEFAULT_ADDRESS
address_by (Some (Word digits)) later = DEFAULT_ADDRESS
address_by (Some (Does i text)) later = DEFAULT_ADDRESS

abbrev pub address_of : Source → ℕ
address_of [] = DEFAULT_ADDRESS
address_of (line ∷ source) = address_by (said_of line) (address_of source)

-- the address of the word that so many words stand before
abbrev pub word_address : Source → ℕ → ℕ
word_address source words = address_of source + 4 * words

-- a number as it is written
abbrev pub written_number : List ℕ → ℤ
written_number [] = pos 0
written_number (byte ∷ text) =
    if byte == 45 then negsuc (number_after 0 text - 1) else pos (number_after 0 (byte ∷ text))

-- how far it is from one address to another
abbrev pub offset : ℕ → ℕ → ℤ
offset from to = if nat_le from to then pos (to - from) else negsuc (from - to - 1)

-- what is written for an immediate, as a number: a name is the offset to its label, and none where no line has it
abbrev pub amount : Source → Place → List ℕ → Option ℤ
amount source p text =
    if is_name text
    then option_map (λ to. offset (word_address source p.words) (word_address source to.words))
    (label_place source text)
    else Some (written_number text)

-- from -sign to sign - 1
abbrev pub in_signed : ℕ → ℤ → Bool
in_signed sign (pos n) = nat_lt n sign
in_signed sign (negsuc n) = nat_lt n sign

-- from 0 to limit - 1
abbrev pub in_unsigned : ℕ → ℤ → Bool
in_unsigned limit (pos n) = nat_lt n limit
in_unsigned limit (negsuc n) = false

abbrev pub is_even : ℤ → Bool
is_even (pos n) = n % 2 == 0
is_even (negsuc n) = n % 2 == 1

-- the number is in the range of the instruction's field; where nothing is written it counts as 0
abbrev pub is_in_range : Instr → ℤ → Bool
is_in_range (Lui rd imm) z = in_unsigned 1048576 z
is_in_range (Auipc rd imm) z = in_unsigned 1048576 z
is_in_range (Jal rd imm) z = in_signed 1048576 z && is_even z
is_in_range (Jalr rd rs1 imm) z = in_signed 2048 z
is_in_range (Branch op rs1 rs2 imm) z = in_signed 4096 z && is_even z
is_in_range (Load op rd rs1 imm) z = in_signed 2048 z
is_in_range (Store op rs1 rs2 imm) z = in_signed 2048 z
is_in_range (Imm op rd rs1 imm) z = if is_shift op then in_unsigned 32 z else in_signed 2048 z
is_in_range (Reg op rd rs1 rs2) z = in_unsigned 1 z
is_in_range (Amo op aq rl rd rs1 rs2) z = in_unsigned 1 z
is_in_range Fence z = in_unsigned 1 z
is_in_range Ecall z = in_unsigned 1 z
is_in_range Ebreak z = in_unsigned 1 z

-- a number as a word of two's complement
abbrev pub complement : ℤ → ℕ
complement (pos n) = n
complement (negsuc n) = 2 ^ 32 - 1 - n

-- the immediate that a number stands for
abbrev pub imm_by : Instr → ℤ → ℕ
imm_by (Lui rd imm) z = complement z * 4096
imm_by (Auipc rd imm) z = complement z * 4096
imm_by _ z = complement z

-- the six causes: 1, the line isn't of the form
abbrev pub is_formless : Option LineSaid → Bool
is_formless line = is_none line

-- a number is there, and out of range
abbrev pub misses : Instr → Option ℤ → Bool
misses i None = false
misses i (Some z) = not (is_in_range i z)

-- 2, a number, or the offset to a label that a line has, is out of its range
abbrev pub is_out_of_range : Source → Place → Option Said → Bool
is_out_of_range source p None = false
is_out_of_range source p (Some (At digits)) = false
is_out_of_range source p (Some (Word digits)) = false
is_out_of_range source p (Some (Does i text)) = misses i (amount source p text)

-- 3, its label stands on an earlier line too, or it uses a label that no line has
abbrev pub is_on_other_line : Place → Option Place → Bool
is_on_other_line p None = false
is_on_other_line p (Some first) = not (first.line == p.line)

abbrev pub is_repeated : Source → Place → Option (List ℕ) → Bool
is_repeated source p None = false
is_repeated source p (Some name) = is_on_other_line p (label_place source name)

abbrev pub uses_unknown : Source → Place → Option Said → Bool
uses_unknown source p None = false
uses_unknown source p (Some (At digits)) = false
uses_unknown source p (Some (Word digits)) = false
uses_unknown source p (Some (Does i text)) = is_none (amount source p text)

-- 4, its `.at` isn't the first statement, isn't a multiple of 4 or is too large
abbrev pub has_bad_address : Place → Option Said → Bool
has_bad_address p None = false
has_bad_address p (Some (At digits)) = p.begun || not (is_address digits)
has_bad_address p (Some (Word digits)) = false
has_bad_address p (Some (Does i text)) = false

-- 5, its word would be one too many, or would end past 4294967296
abbrev pub is_past_the_end : Source → Place → Option Said → Bool
is_past_the_end source p said =
    words_by said == 1 && (nat_le MOST_WORDS p.words || nat_lt 4294967296 (word_address source p.words + 4))

-- the number of the first of these that stands
abbrev pub first_of : ℕ → List Bool → Option ℕ
first_of why [] = None
first_of why (stands ∷ causes) = if stands then Some why else first_of (why + 1) causes

abbrev pub why_of : Source → Place → Option LineSaid → Option ℕ
why_of source p line =
    first_of 1 (
    is_formless line
    ∷ is_out_of_range source p (said_of line)
    ∷ (is_repeated source p (label_of line) || uses_unknown source p (said_of line))
    ∷ has_bad_address p (said_of line)
    ∷ is_past_the_end source p (said_of line) ∷ [])

-- the first bad line of the rest of a source; 6, there is no word at the end
abbrev pub bad_or : Place → Option ℕ → Option BadLine → Option BadLine
bad_or p None later = later
bad_or p (Some why) later = Some (record { line = p.line; why = why })

abbrev pub bad_from : Source → Place → Source → Option BadLine
bad_from source p [] = if p.words == 0 then Some (record { line = p.line; why = 6 }) else None
bad_from source p (line ∷ rest) = bad_or p (why_of source p line) (bad_from source (next_place p line) rest)

abbrev pub first_bad : Source → Option BadLine
first_bad source = bad_from source first_place source

-- a hexadecimal digit of either case
abbrev pub hex_value : ℕ → ℕ
hex_value byte = if nat_le byte 57 then byte - 48 else (if nat_le byte 70 then byte - 55 else byte - 87)

abbrev pub hex_after : ℕ → List ℕ → ℕ
hex_after n [] = n
hex_after n (digit ∷ digits) = hex_after (n * 16 + hex_value digit) digits

abbrev pub instr_word : Instr → Option ℤ → List ℕ
instr_word i None = []
instr_word i (Some z) = encoded (with_imm i (imm_by i z)) ∷ []

-- the word that a line makes, if any
abbrev pub line_words : Source → Place → Option Said → List ℕ
line_words source p None = []
line_words source p (Some (At digits)) = []
line_words source p (Some (Word digits)) = hex_after 0 digits ∷ []
line_words source p (Some (Does i text)) = instr_word i (amount source p text)

abbrev pub words_from : Source → Place → Source → List ℕ
words_from source p [] = []
words_from source p (line ∷ rest) = line_words source p (said_of line) ++ words_from source (next_place p line) rest

abbrev pub words_of : Source → List ℕ
words_of source = words_from source first_place source

-- the source of a text has no bad line, and is the program of these words at this address
pub record Assembled (text : List ℕ) (at : ℕ) (words : List ℕ) : Type 0 where
  pub source : Source
  pub says : IsSource (text_lines text) source
  pub good : first_bad source ≡ None
  pub at_is : address_of source ≡ at
  pub words_are : words_of source ≡ words

-- this is the first bad line of a text
pub record IsBad (text : List ℕ) (bad : BadLine) : Type 0 where
  pub source : Source
  pub says : IsSource (text_lines text) source
  pub first : first_bad source ≡ Some bad
