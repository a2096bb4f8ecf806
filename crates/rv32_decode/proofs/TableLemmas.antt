-- The tables of operations, read both ways.
use Rattle.std.proofs.Common.{◌≡◌, ◌<◌, ℕ, Bool, true, false, List, [], ◌∷◌, Option, Some, None, refl, sym, eqb, lit<}
use Rattle.std.specs.Prelude.{IfSome}
use Rattle.std.specs.List.{AllByRecursion}
use Rattle.std.specs.Option.{option_map}
use Rattle.std.proofs.lemmas.Bool.{cond_both, eqb-true}
use Rattle.rv32_decode.specs.declared.instr.BranchOp.{BranchOp}
use Rattle.rv32_decode.specs.declared.instr.BranchOp.TheVariants.{Beq, Bne, Blt, Bge, Bltu, Bgeu}
use Rattle.rv32_decode.specs.declared.instr.LoadOp.{LoadOp}
use Rattle.rv32_decode.specs.declared.instr.LoadOp.TheVariants.{Lb, Lh, Lw, Lbu, Lhu}
use Rattle.rv32_decode.specs.declared.instr.StoreOp.{StoreOp}
use Rattle.rv32_decode.specs.declared.instr.StoreOp.TheVariants.{Sb, Sh, Sw}
use Rattle.rv32_decode.specs.declared.instr.RegOp.{RegOp}
use Rattle.rv32_decode.specs.declared.instr.RegOp.TheVariants.{Add, Sub, Sll, Slt, Sltu, Xor, Srl, Sra, Or, And, Mul, Mulh, Mulhsu, Mulhu, Div, Divu, Rem, Remu}
use Rattle.rv32_decode.specs.declared.instr.AmoOp.{AmoOp}
use Rattle.rv32_decode.specs.declared.instr.AmoOp.TheVariants.{Amoadd, Amoswap, Amoxor, Amoor, Amoand, Amomin, Amomax, Amominu, Amomaxu}
use Rattle.rv32_decode.specs.declared.instr.ImmOp.{ImmOp}
use Rattle.rv32_decode.specs.Tables.{look_up, branch_rows, load_rows, store_rows, imm_rows, shift_rows, reg_rows, amo_rows}
use Rattle.rv32_decode.specs.Encoding.{branch_code, load_code, store_code, imm_code, reg_code, amo_code, is_shift}

-- what holds of each row's value where the key is the row's holds of what is found
pub look_up-all : {A : Type 0} (P : A → Type 0) (rows : List (ℕ × A)) (key : ℕ) → AllByRecursion (λ (row : ℕ × A). key ≡ row.0 → P row.1) rows
    → IfSome (look_up rows key) P
look_up-all P [] key h = tt
look_up-all {A} P (row ∷ rows) key h =
    cond_both (eqb key row.0) (Some row.1) (look_up rows key) (λ (o : Option A). IfSome o P)
    (λ e. h.0 (eqb-true key row.0 e)) (λ _. look_up-all P rows key h.1)

pub option_map-all : {A B : Type 0} (f : A → B) (P : A → Type 0) (Q : B → Type 0) (o : Option A) → IfSome o P → ((a : A) → P a → Q (f a)) → IfSome (option_map f o) Q
option_map-all f P Q None h step = tt
option_map-all f P Q (Some a) h step = step a h

pub branch-found : (op : BranchOp) → look_up branch_rows (branch_code op) ≡ Some op
branch-found Beq = refl
branch-found Bne = refl
branch-found Blt = refl
branch-found Bge = refl
branch-found Bltu = refl
branch-found Bgeu = refl

pub branch-code_of : (key : ℕ) → IfSome (look_up branch_rows key) (λ op. branch_code op ≡ key)
branch-code_of key = look_up-all (λ op. branch_code op ≡ key) branch_rows key (λ e. sym e, (λ e. sym e, (λ e. sym e, (λ e. sym e, (λ e. sym e, (λ e. sym e, tt))))))

pub branch_code-lt : (op : BranchOp) → branch_code op < 8
branch_code-lt Beq = lit< tt
branch_code-lt Bne = lit< tt
branch_code-lt Blt = lit< tt
branch_code-lt Bge = lit< tt
branch_code-lt Bltu = lit< tt
branch_code-lt Bgeu = lit< tt

pub load-found : (op : LoadOp) → look_up load_rows (load_code op) ≡ Some op
load-found Lb = refl
load-found Lh = refl
load-found Lw = refl
load-found Lbu = refl
load-found Lhu = refl

pub load-code_of : (key : ℕ) → IfSome (look_up load_rows key) (λ op. load_code op ≡ key)
load-code_of key = look_up-all (λ op. load_code op ≡ key) load_rows key (λ e. sym e, (λ e. sym e, (λ e. sym e, (λ e. sym e, (λ e. sym e, tt)))))

pub load_code-lt : (op : LoadOp) → load_code op < 8
load_code-lt Lb = lit< tt
load_code-lt Lh = lit< tt
load_code-lt Lw = lit< tt
load_code-lt Lbu = lit< tt
load_code-lt Lhu = lit< tt

pub store-found : (op : StoreOp) → look_up store_rows (store_code op) ≡ Some op
store-found Sb = refl
store-found Sh = refl
store-found Sw = refl

pub store-code_of : (key : ℕ) → IfSome (look_up store_rows key) (λ op. store_code op ≡ key)
store-code_of key = look_up-all (λ op. store_code op ≡ key) store_rows key (λ e. sym e, (λ e. sym e, (λ e. sym e, tt)))

pub store_code-lt : (op : StoreOp) → store_code op < 8
store_code-lt Sb = lit< tt
store_code-lt Sh = lit< tt
store_code-lt Sw = lit< tt

pub reg-found : (op : RegOp) → look_up reg_rows (reg_code op) ≡ Some op
reg-found Add = refl
reg-found Sub = refl
reg-found Sll = refl
reg-found Slt = refl
reg-found Sltu = refl
reg-found Xor = refl
reg-found Srl = refl
reg-found Sra = refl
reg-found Or = refl
reg-found And = refl
reg-found Mul = refl
reg-found Mulh = refl
reg-found Mulhsu = refl
reg-found Mulhu = refl
reg-found Div = refl
reg-found Divu = refl
reg-found Rem = refl
reg-found Remu = refl

pub reg-code_of : (key : ℕ) → IfSome (look_up reg_rows key) (λ op. reg_code op ≡ key)
reg-code_of key = look_up-all (λ op. reg_code op ≡ key) reg_rows key (λ e. sym e, (λ e. sym e, (λ e. sym e, (λ e. sym e, (λ e. sym e, (λ e. sym e, (λ e. sym e, (λ e. sym e, (λ e. sym e, (λ e. sym e, (λ e. sym e, (λ e. sym e, (λ e. sym e, (λ e. sym e, (λ e. sym e, (λ e. sym e, (λ e. sym e, (λ e. sym e, tt))))))))))))))))))

pub reg_code-lt : (op : RegOp) → reg_code op < 1024
reg_code-lt Add = lit< tt
reg_code-lt Sub = lit< tt
reg_code-lt Sll = lit< tt
reg_code-lt Slt = lit< tt
reg_code-lt Sltu = lit< tt
reg_code-lt Xor = lit< tt
reg_code-lt Srl = lit< tt
reg_code-lt Sra = lit< tt
reg_code-lt Or = lit< tt
reg_code-lt And = lit< tt
reg_code-lt Mul = lit< tt
reg_code-lt Mulh = lit< tt
reg_code-lt Mulhsu = lit< tt
reg_code-lt Mulhu = lit< tt
reg_code-lt Div = lit< tt
reg_code-lt Divu = lit< tt
reg_code-lt Rem = lit< tt
reg_code-lt Remu = lit< tt

pub amo-found : (op : AmoOp) → look_up amo_rows (amo_code op) ≡ Some op
amo-found Amoadd = refl
amo-found Amoswap = refl
amo-found Amoxor = refl
amo-found Amoor = refl
amo-found Amoand = refl
amo-found Amomin = refl
amo-found Amomax = refl
amo-found Amominu = refl
amo-found Amomaxu = refl

pub amo-code_of : (key : ℕ) → IfSome (look_up amo_rows key) (λ op. amo_code op ≡ key)
amo-code_of key = look_up-all (λ op. amo_code op ≡ key) amo_rows key (λ e. sym e, (λ e. sym e, (λ e. sym e, (λ e. sym e, (λ e. sym e, (λ e. sym e, (λ e. sym e, (λ e. sym e, (λ e. sym e, tt)))))))))

pub amo_code-lt : (op : AmoOp) → amo_code op < 32
amo_code-lt Amoadd = lit< tt
amo_code-lt Amoswap = lit< tt
amo_code-lt Amoxor = lit< tt
amo_code-lt Amoor = lit< tt
amo_code-lt Amoand = lit< tt
amo_code-lt Amomin = lit< tt
amo_code-lt Amomax = lit< tt
amo_code-lt Amominu = lit< tt
amo_code-lt Amomaxu = lit< tt

-- an operation of one of the two tables by its code
pub record HasCode (shifts : Bool) (key : ℕ) (op : ImmOp) : Type 0 where
  pub code : imm_code op ≡ key
  pub kind : is_shift op ≡ shifts

pub imm-code_of : (key : ℕ) → IfSome (look_up imm_rows key) (HasCode false key)
imm-code_of key = look_up-all (HasCode false key) imm_rows key
    (λ e. record { code = sym e; kind = refl }, (λ e. record { code = sym e; kind = refl }, (λ e. record { code = sym e; kind = refl }, (λ e. record { code = sym e; kind = refl }, (λ e. record { code = sym e; kind = refl }, (λ e. record { code = sym e; kind = refl }, tt))))))

pub shift-code_of : (key : ℕ) → IfSome (look_up shift_rows key) (HasCode true key)
shift-code_of key = look_up-all (HasCode true key) shift_rows key
    (λ e. record { code = sym e; kind = refl }, (λ e. record { code = sym e; kind = refl }, (λ e. record { code = sym e; kind = refl }, tt)))
