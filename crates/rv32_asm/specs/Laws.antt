-- Laws over lines.
use Rattle.std.specs.Prelude.{ℕ, ◌≡◌, List, Option}
use Rattle.rv32_asm.specs.Grammar.{LineSaid, Says}

-- a line says one thing
abbrev pub OneReading : Type 0
OneReading = (line : List ℕ) (a b : Option LineSaid) → Says line a → Says line b → a ≡ b
