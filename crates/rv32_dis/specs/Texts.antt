-- Instructions as assembly text, and the lines of a disassembled program.
use Rattle.std.specs.Prelude.{ℕ, ◌-◌, ◌/◌, ◌^◌, ◌==◌, List, [], ◌∷◌, ◌++◌, codes, Option, Some, None, if◌then◌else◌, nat_lt}
use Rattle.std.specs.List.{flat_map, concat}
use Rattle.std.specs.Fmt.{decimal}
use Rattle.conda_base.specs.Digits.{hex_word}
use Rattle.rv32_decode.specs.declared.instr.Instr.{Instr}
use Rattle.rv32_decode.specs.declared.instr.Instr.TheVariants.{Lui, Auipc, Jal, Jalr, Branch, Load, Store, Imm, Reg, Amo, Fence, Ecall, Ebreak}
use Rattle.rv32_decode.specs.Decoding.{decoded}
use Rattle.rv32_decode.specs.Encoding.{encoded}
use Rattle.rv32_dis.specs.Mnemonics.{mnemonic_of, name_of}

abbrev pub register : ℕ → List ℕ
register r = codes "x" ++ decimal r

-- a word of two's complement as a signed number
abbrev pub signed_text : ℕ → List ℕ
signed_text word = if nat_lt word (2 ^ 31) then decimal word else codes "-" ++ decimal (2 ^ 32 - word)

-- the four ways to write operands, each a list of words and marks
abbrev pub pair : ℕ → List ℕ → List (List ℕ)
pair r number = register r ∷ codes "," ∷ number ∷ []

abbrev pub triple : ℕ → ℕ → List ℕ → List (List ℕ)
triple r s last = register r ∷ codes "," ∷ register s ∷ codes "," ∷ last ∷ []

abbrev pub addressed : ℕ → List ℕ → ℕ → List (List ℕ)
addressed r number base = register r ∷ codes "," ∷ number ∷ codes "(" ∷ register base ∷ codes ")" ∷ []

abbrev pub atomic : ℕ → ℕ → ℕ → List (List ℕ)
atomic r s base = register r ∷ codes "," ∷ register s ∷ codes "," ∷ codes "(" ∷ register base ∷ codes ")" ∷ []

-- an instruction's operands, where its immediate is written as `number`
abbrev pub operands : Instr → List ℕ → List (List ℕ)
operands (Lui rd imm) number = pair rd number
operands (Auipc rd imm) number = pair rd number
operands (Jal rd imm) number = pair rd number
operands (Jalr rd rs1 imm) number = addressed rd number rs1
operands (Branch op rs1 rs2 imm) number = triple rs1 rs2 number
operands (Load op rd rs1 imm) number = addressed rd number rs1
operands (Store op rs1 rs2 imm) number = addressed rs2 number rs1
operands (Imm op rd rs1 imm) number = triple rd rs1 number
operands (Reg op rd rs1 rs2) number = triple rd rs1 (register rs2)
operands (Amo op aq rl rd rs1 rs2) number = atomic rd rs2 rs1
operands Fence number = []
operands Ecall number = []
operands Ebreak number = []

-- an instruction's words and marks
abbrev pub instr_pieces : Instr → List ℕ → List (List ℕ)
instr_pieces i number = name_of (mnemonic_of i) ∷ operands i number

-- how an instruction's immediate is written: LUI and AUIPC name the upper 20 bits
abbrev pub immediate_text : Instr → List ℕ
immediate_text (Lui rd imm) = decimal (imm / 4096)
immediate_text (Auipc rd imm) = decimal (imm / 4096)
immediate_text (Jal rd imm) = signed_text imm
immediate_text (Jalr rd rs1 imm) = signed_text imm
immediate_text (Branch op rs1 rs2 imm) = signed_text imm
immediate_text (Load op rd rs1 imm) = signed_text imm
immediate_text (Store op rs1 rs2 imm) = signed_text imm
immediate_text (Imm op rd rs1 imm) = signed_text imm
immediate_text (Reg op rd rs1 rs2) = []
immediate_text (Amo op aq rl rd rs1 rs2) = []
immediate_text Fence = []
immediate_text Ecall = []
immediate_text Ebreak = []

-- words and marks with no spaces but one after the first
abbrev pub spaced : List (List ℕ) → List ℕ
spaced [] = []
spaced (first ∷ []) = first
spaced (first ∷ next ∷ rest) = first ++ codes " " ++ concat (next ∷ rest)

-- an instruction's text
unfoldable pub instr_text : Instr → List ℕ
instr_text i = spaced (instr_pieces i (immediate_text i))

-- a word that isn't written as an instruction
abbrev pub raw_text : ℕ → List ℕ
raw_text word = codes ".word 0x" ++ hex_word word

-- the text of a word that decodes to this, if to any: an instruction's where the word is the one that it encodes to
abbrev pub word_text_by : ℕ → Option Instr → List ℕ
word_text_by word None = raw_text word
word_text_by word (Some i) = if encoded i == word then instr_text i else raw_text word

-- a word as a line of a disassembled program, without its line feed
abbrev pub word_line : ℕ → List ℕ
word_line word = word_text_by word (decoded word)

-- a disassembled program: its address, and a line a word
abbrev pub program_text : ℕ → List ℕ → List ℕ
program_text at words = codes ".at " ++ decimal at ++ 10 ∷ flat_map (λ w. word_line w ++ 10 ∷ []) words
