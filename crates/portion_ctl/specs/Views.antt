-- What contracts see of a portion in each of its states.
use Rattle.std.specs.Prelude.{ℕ, Bool, List}
use Rattle.rv32_hart.specs.declared.regs.Regs.{Regs}
use Rattle.offload_calls.specs.declared.status.CoreStatus.{CoreStatus}
use Rattle.nda_cache.specs.Tried.{Tried}
use Rattle.bloom_sig.specs.Signatures.{Sets}
use Rattle.try_runs.specs.declared.limits.Limits.{Limits}

-- a core with no open try
pub record ReadyView : Type 0 where
  pub core : ℕ
  pub limits : Limits
  pub regs : Regs

-- A core with an open try: the registers of its opening, those of now, how many acts were made,
-- the lines of the try, its signatures, and the bytes that it holds back.
pub record OpenView : Type 0 where
  pub core : ℕ
  pub limits : Limits
  pub opening : Regs
  pub regs : Regs
  pub status : CoreStatus
  pub acts : ℕ
  pub cache : Tried
  pub read_set : Sets
  pub write_set : Sets
  pub foreign_set : Sets
  pub held : List ℕ
  pub locked : Bool

-- a core whose try has ended, with the cause
pub record EndedView : Type 0 where
  pub try : OpenView
  pub cause : ℕ

-- a core whose last try was taken back, with that try's read set and how many flushes are due to it
pub record FlushingView : Type 0 where
  pub core : ℕ
  pub limits : Limits
  pub regs : Regs
  pub read_set : Sets
  pub due : ℕ

-- the core as it is without a try, with these registers
abbrev pub rests_with : OpenView → Regs → ReadyView
rests_with o r = record { core = o.core; limits = o.limits; regs = r }
