-- The form of a line.
use Rattle.std.specs.Prelude.{ℕ, ◌≡◌, ◌==◌, ◌&&◌, ◌||◌, not, Bool, false, IsTrue, List, [], ◌∷◌, ◌++◌, length, slice_index, codes, Option, Some, None, if◌then◌else◌, nat_le, nat_lt, IfSome}
use Rattle.std.specs.List.{list_all}
use Rattle.conda_base.specs.Digits.{is_digit, is_numeral}
use Rattle.rv32_decode.specs.declared.instr.Instr.{Instr}
use Rattle.rv32_decode.specs.declared.instr.Instr.TheVariants.{Lui, Auipc, Jal, Jalr, Branch, Load, Store, Imm, Reg, Amo, Fence, Ecall, Ebreak}
use Rattle.rv32_decode.specs.Ranges.{FieldsFit}
use Rattle.rv32_dis.specs.Texts.{instr_pieces}
use Rattle.rv32_asm.specs.declared.limits.TheConstants.{LONGEST_NAME}
use Rattle.rv32_asm.specs.Pieces.{pieces, without_comment}

abbrev pub is_letter : ℕ → Bool
is_letter byte = (nat_le 65 byte && nat_le byte 90) || (nat_le 97 byte && nat_le byte 122)

abbrev pub is_name_byte : ℕ → Bool
is_name_byte byte = is_letter byte || is_digit byte || byte == 95

-- one or more letters, digits and `_`, not too many, and not beginning with a digit
abbrev pub is_name : List ℕ → Bool
is_name name =
    nat_le 1 (length name) && nat_le (length name) LONGEST_NAME && list_all is_name_byte name
    && not (is_digit (slice_index name 0))

-- a numeral, or `-` and a numeral other than 0
abbrev pub is_number : List ℕ → Bool
is_number [] = false
is_number (byte ∷ text) =
    if byte == 45 then is_numeral text && not (slice_index text 0 == 48) else is_numeral (byte ∷ text)

-- a hexadecimal digit of either case
abbrev pub is_hex_digit : ℕ → Bool
is_hex_digit byte = is_digit byte || (nat_le 65 byte && nat_le byte 70) || (nat_le 97 byte && nat_le byte 102)

abbrev pub is_hex_word : List ℕ → Bool
is_hex_word text = length text == 8 && list_all is_hex_digit text

-- An immediate is a number, an offset a number or a name. What has neither has nothing written in its place.
abbrev pub is_amount : Instr → List ℕ → Bool
is_amount (Lui rd imm) text = is_number text
is_amount (Auipc rd imm) text = is_number text
is_amount (Jal rd imm) text = is_number text || is_name text
is_amount (Jalr rd rs1 imm) text = is_number text
is_amount (Branch op rs1 rs2 imm) text = is_number text || is_name text
is_amount (Load op rd rs1 imm) text = is_number text
is_amount (Store op rs1 rs2 imm) text = is_number text
is_amount (Imm op rd rs1 imm) text = is_number text
is_amount (Reg op rd rs1 rs2) text = length text == 0
is_amount (Amo op aq rl rd rs1 rs2) text = length text == 0
is_amount Fence text = length text == 0
is_amount Ecall text = length text == 0
is_amount Ebreak text = length text == 0

-- an instruction with another immediate, where it has one
abbrev pub with_imm : Instr → ℕ → Instr
with_imm (Lui rd old) imm = Lui rd imm
with_imm (Auipc rd old) imm = Auipc rd imm
with_imm (Jal rd old) imm = Jal rd imm
with_imm (Jalr rd rs1 old) imm = Jalr rd rs1 imm
with_imm (Branch op rs1 rs2 old) imm = Branch op rs1 rs2 imm
with_imm (Load op rd rs1 old) imm = Load op rd rs1 imm
with_imm (Store op rs1 rs2 old) imm = Store op rs1 rs2 imm
with_imm (Imm op rd rs1 old) imm = Imm op rd rs1 imm
with_imm (Reg op rd rs1 rs2) imm = Reg op rd rs1 rs2
with_imm (Amo op aq rl rd rs1 rs2) imm = Amo op aq rl rd rs1 rs2
with_imm Fence imm = Fence
with_imm Ecall imm = Ecall
with_imm Ebreak imm = Ebreak

-- what a statement says: an address, a word, or an instruction, which has the immediate 0 here, and what is written
-- for its immediate
pub data Said : Type 0 where
  At : List ℕ → Said
  Word : List ℕ → Said
  Does : Instr → List ℕ → Said

-- a statement's words and marks
abbrev pub said_pieces : Said → List (List ℕ)
said_pieces (At number) = codes ".at" ∷ number ∷ []
said_pieces (Word digits) = codes ".word" ∷ (codes "0x" ++ digits) ∷ []
said_pieces (Does i number) = instr_pieces i number

abbrev pub IsSaid : Said → Type 0
IsSaid (At number) = IsTrue (is_numeral number)
IsSaid (Word digits) = IsTrue (is_hex_word digits)
IsSaid (Does i number) = FieldsFit i × (with_imm i 0 ≡ i) × IsTrue (is_amount i number)

-- what a line says: a label, and a statement
pub record LineSaid : Type 0 where
  pub label : Option (List ℕ)
  pub statement : Option Said

abbrev pub label_pieces : Option (List ℕ) → List (List ℕ)
label_pieces None = []
label_pieces (Some name) = (name ++ codes ":") ∷ []

abbrev pub statement_pieces : Option Said → List (List ℕ)
statement_pieces None = []
statement_pieces (Some said) = said_pieces said

-- a line is spelled so: in ASCII, and without its comment these words and marks
pub record Spells (line : List ℕ) (said : LineSaid) : Type 0 where
  pub ascii : IsTrue (list_all (λ byte. nat_lt byte 128) line)
  pub label : IfSome said.label (λ name. IsTrue (is_name name))
  pub statement : IfSome said.statement IsSaid
  pub text : pieces (without_comment line) ≡ label_pieces said.label ++ statement_pieces said.statement

-- what a line says, None where it isn't of the form
abbrev pub Says : List ℕ → Option LineSaid → Type 0
Says line (Some said) = Spells line said
Says line None = (said : LineSaid) → ¬ (Spells line said)
