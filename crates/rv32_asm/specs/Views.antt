-- What a line says, without where it lies in memory.
use Rattle.std.specs.Prelude.{ℕ, List}
use Rattle.std.specs.Option.{option_map}
use denote.Ref.{Bor}
use Rattle.rv32_asm.specs.declared.statement.Statement.{Statement}
use Rattle.rv32_asm.specs.declared.statement.Statement.TheVariants as Statement_is
use Rattle.rv32_asm.specs.declared.statement.SourceLine.{SourceLine}
use Rattle.rv32_asm.specs.Grammar.{Said, At, Word, Does, LineSaid}

abbrev pub name_view : Bor (List ℕ) → List ℕ
name_view name = name.now

abbrev pub said_view : Statement → Said
said_view (Statement_is.At number) = At number.now
said_view (Statement_is.Word digits) = Word digits.now
said_view (Statement_is.Does i number) = Does i number.now

abbrev pub line_view : SourceLine → LineSaid
line_view line = record { label = option_map name_view line.label; statement = option_map said_view line.statement }
