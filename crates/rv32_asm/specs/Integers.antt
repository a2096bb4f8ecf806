-- Numbers as the code has them.
use Rattle.std.specs.Prelude.{ℤ, pos, negsuc, ◌≡◌, ◌^◌, false, Option, Some, None}
use Rattle.rv32_asm.specs.declared.integer.Integer.{Integer}
use Rattle.rv32_asm.specs.declared.integer.Integer.TheVariants.{AtLeast0, Below0}
use Rattle.rv32_asm.specs.declared.integer.Amount.{Amount}
use Rattle.rv32_asm.specs.declared.integer.Amount.TheVariants.{Unknown, Huge, Is}
use Rattle.rv32_asm.specs.declared.place.Place.{Place}
use Rattle.rv32_asm.specs.Grammar.{Said, At, Word, Does}
use Rattle.rv32_asm.specs.Assembled.{Source, amount, in_signed}

-- n, or -n - 1
abbrev pub integer_view : Integer → ℤ
integer_view (AtLeast0 n) = pos n
integer_view (Below0 n) = negsuc n

-- none, one that no field takes, or this one
abbrev pub IsAmount : Amount → Option ℤ → Type 0
IsAmount Unknown o = o ≡ None
IsAmount Huge o = (z : ℤ) × (o ≡ Some z) × (in_signed (2 ^ 31) z ≡ false)
IsAmount (Is n) o = o ≡ Some (integer_view n)

-- of an instruction, this is what is written for its immediate
abbrev pub IsAmountOf : Amount → Source → Place → Option Said → Type 0
IsAmountOf n source p None = Unit {0}
IsAmountOf n source p (Some (At digits)) = Unit {0}
IsAmountOf n source p (Some (Word digits)) = Unit {0}
IsAmountOf n source p (Some (Does i text)) = IsAmount n (amount source p text)
