-- How the words and marks of a line are read.
use Rattle.std.specs.Prelude.{ℕ, ◌≡◌, ◌+◌, ◌-◌, ◌*◌, ◌==◌, ◌&&◌, Bool, List, [], ◌∷◌, length, take, drop, slice_index, codes, Option, Some, None, if◌then◌else◌, nat_le, nat_lt}
use Rattle.std.specs.List.{list_all}
use Rattle.std.specs.Option.{option_map}
use Rattle.std.specs.Str.{bytes_eq}
use Rattle.rv32_decode.specs.declared.instr.Instr.{Instr}
use Rattle.rv32_decode.specs.declared.instr.Instr.TheVariants.{Lui, Auipc, Jal, Jalr, Branch, Load, Store, Imm, Reg, Amo, Fence, Ecall, Ebreak}
use Rattle.rv32_dis.specs.declared.mnemonic.Mnemonic.{Mnemonic}
use Rattle.rv32_dis.specs.declared.mnemonic.Mnemonic.TheVariants as Is
use Rattle.rv32_dis.specs.Naming.{mnemonic_in}
use Rattle.rv32_asm.specs.Pieces.{pieces, without_comment}
use Rattle.conda_base.specs.Digits.{is_digit, is_numeral}
use Rattle.rv32_asm.specs.Grammar.{is_name, is_hex_word, is_amount, Said, At, Word, Does, LineSaid}

infixl 10 ◌>>=◌
abbrev pub ◌>>=◌ : {A B : Type 0} → Option A → (A → Option B) → Option B
None >>= f = None
(Some x) >>= f = f x

abbrev pub Pieces : Type 0
Pieces = List (List ℕ)

-- a value, where a test holds
abbrev pub when : {A : Type 0} → Bool → A → Option A
when test value = if test then Some value else None

abbrev pub take_piece : Pieces → Option (List ℕ × Pieces)
take_piece [] = None
take_piece (piece ∷ rest) = Some (piece, rest)

-- the number of a register
abbrev pub register_in : List ℕ → Option ℕ
register_in (x ∷ d ∷ []) = when (x == 120 && is_digit d) (d - 48)
register_in (x ∷ c ∷ d ∷ []) =
    when
    (x == 120 && (nat_le 49 c && is_digit c) && is_digit d && nat_lt (10 * (c - 48) + (d - 48)) 32)
    (10 * (c - 48) + (d - 48))
register_in _ = None

unfoldable pub take_register : Pieces → Option (ℕ × Pieces)
take_register ps = do
  p ← take_piece ps
  r ← register_in p.0
  Some (r, p.1)

unfoldable pub take_mark : ℕ → Pieces → Option Pieces
take_mark mark ps = do
  p ← take_piece ps
  when (bytes_eq p.0 (mark ∷ [])) p.1

-- a list of one piece
unfoldable pub only_piece : Pieces → Option (List ℕ)
only_piece ps = do
  p ← take_piece ps
  when (length p.1 == 0) p.0

-- a register and a comma
unfoldable pub take_first : Pieces → Option (ℕ × Pieces)
take_first ps = do
  r ← take_register ps
  rest ← take_mark 44 r.1
  Some (r.0, rest)

-- a register in parentheses, and nothing else
unfoldable pub base_in : Pieces → Option ℕ
base_in ps = do
  rest ← take_mark 40 ps
  r ← take_register rest
  end ← take_mark 41 r.1
  when (length end == 0) r.0

unfoldable pub pair_in : Pieces → Option (ℕ × List ℕ)
pair_in ps = do
  r ← take_first ps
  number ← only_piece r.1
  Some (r.0, number)

unfoldable pub triple_in : Pieces → Option (ℕ × ℕ × List ℕ)
triple_in ps = do
  r ← take_first ps
  s ← take_first r.1
  last ← only_piece s.1
  Some (r.0, s.0, last)

unfoldable pub addressed_in : Pieces → Option (ℕ × List ℕ × ℕ)
addressed_in ps = do
  r ← take_first ps
  number ← take_piece r.1
  base ← base_in number.1
  Some (r.0, number.0, base)

unfoldable pub atomic_in : Pieces → Option (ℕ × ℕ × ℕ)
atomic_in ps = do
  r ← take_first ps
  s ← take_first r.1
  base ← base_in s.1
  Some (r.0, s.0, base)

-- an instruction of three registers
unfoldable pub registers_in : Pieces → Option (ℕ × ℕ × ℕ)
registers_in ps = do
  x ← triple_in ps
  t ← register_in x.2
  Some (x.0, x.1, t)

-- an instruction by its name and what follows it
unfoldable pub operands_in : Mnemonic → Pieces → Option (Instr × List ℕ)
operands_in Is.Lui ps = option_map (λ x. (Lui x.0 0, x.1)) (pair_in ps)
operands_in Is.Auipc ps = option_map (λ x. (Auipc x.0 0, x.1)) (pair_in ps)
operands_in Is.Jal ps = option_map (λ x. (Jal x.0 0, x.1)) (pair_in ps)
operands_in Is.Jalr ps = option_map (λ x. (Jalr x.0 x.2 0, x.1)) (addressed_in ps)
operands_in (Is.Branch op) ps = option_map (λ x. (Branch op x.0 x.1 0, x.2)) (triple_in ps)
operands_in (Is.Load op) ps = option_map (λ x. (Load op x.0 x.2 0, x.1)) (addressed_in ps)
operands_in (Is.Store op) ps = option_map (λ x. (Store op x.2 x.0 0, x.1)) (addressed_in ps)
operands_in (Is.Imm op) ps = option_map (λ x. (Imm op x.0 x.1 0, x.2)) (triple_in ps)
operands_in (Is.Reg op) ps = option_map (λ x. (Reg op x.0 x.1 x.2, [])) (registers_in ps)
operands_in (Is.Amo op aq rl) ps = option_map (λ x. (Amo op aq rl x.0 x.2 x.1, [])) (atomic_in ps)
operands_in Is.Fence ps = when (length ps == 0) (Fence, [])
operands_in Is.Ecall ps = when (length ps == 0) (Ecall, [])
operands_in Is.Ebreak ps = when (length ps == 0) (Ebreak, [])

unfoldable pub instr_in : Mnemonic → Pieces → Option Said
instr_in m ps = do
  x ← operands_in m ps
  when (is_amount x.0 x.1) (Does x.0 x.1)

unfoldable pub at_in : Pieces → Option Said
at_in ps = do
  number ← only_piece ps
  when (is_numeral number) (At number)

unfoldable pub word_in : Pieces → Option Said
word_in ps = do
  text ← only_piece ps
  when (bytes_eq (take 2 text) (codes "0x") && is_hex_word (drop 2 text)) (Word (drop 2 text))

-- a statement by its first word
unfoldable pub statement_by : List ℕ → Pieces → Option Said
statement_by first rest =
    if bytes_eq first (codes ".at") then at_in rest
    else (if bytes_eq first (codes ".word") then word_in rest
    else (mnemonic_in first >>= λ m. instr_in m rest))

-- nothing, or a statement
unfoldable pub statement_in : Pieces → Option (Option Said)
statement_in [] = Some None
statement_in (first ∷ rest) = option_map Some (statement_by first rest)

abbrev pub labeled : Option (List ℕ) → Pieces → Option LineSaid
labeled label ps = option_map (λ s. record { label = label; statement = s }) (statement_in ps)

-- a word that ends in a colon
abbrev pub is_label : List ℕ → Bool
is_label piece = nat_le 1 (length piece) && slice_index piece (length piece - 1) == 58

abbrev pub label_name : List ℕ → List ℕ
label_name piece = take (length piece - 1) piece

unfoldable pub pieces_in : Pieces → Option LineSaid
pieces_in [] = Some (record { label = None; statement = None })
pieces_in (first ∷ rest) =
    if is_label first then (if is_name (label_name first) then labeled (Some (label_name first)) rest else None)
    else labeled None (first ∷ rest)

-- what a line says
abbrev pub line_in : List ℕ → Option LineSaid
line_in line = if list_all (λ byte. nat_lt byte 128) line then pieces_in (pieces (without_comment line)) else None

-- what a function returned, seen by `view`, is what reading gives
abbrev pub Returns : {X Y : Type 0} → (X → Y) → Option X → Option Y → Type 0
Returns view None read = read ≡ None
Returns view (Some x) read = read ≡ Some (view x)
