-- Instructions that are kept decoded.
use Rattle.std.specs.Prelude.{ℕ, ◌≡◌, ◌+◌, ◌*◌, List, Option, Some, option_and_then, slice_get}
use Rattle.rv32_decode.specs.declared.instr.Instr.{Instr}
use Rattle.rv32_decode.specs.Decoding.{decoded}
use Rattle.rv32_decode.specs.Ranges.{FieldsFit}
use Rattle.rv32_hart.specs.Code.{CodeView, word_at}

-- the instruction at pc, where its word may be fetched and is one
abbrev pub instr_at : CodeView → ℕ → Option Instr
instr_at code pc = option_and_then decoded (word_at code pc)

-- each kept instruction is the one at its place, of which the first is word number `first` of all addresses
abbrev pub AreDecoded : CodeView → ℕ → List (Option Instr) → Type 0
AreDecoded code first kept =
    (k : ℕ) (i : Instr) → slice_get kept k ≡ Some (Some i)
    → (instr_at code ((first + k) * 4) ≡ Some i) × FieldsFit i
