-- A rollback: what the core keeps of the try.
use Rattle.std.specs.Prelude.{ℕ, ◌≡◌, count_by}
use Rattle.bloom_sig.specs.Signatures.{Sets, is_member}
use Rattle.bloom_sig.specs.Images.{IsSignatureOf, member_count}
use Rattle.line_memory.specs.Backing.{BackingView, dirty_in}
use Rattle.try_runs.specs.Fills.{Portion}
use Rattle.try_runs.specs.Tries.{Try}
use Rattle.portion_ctl.specs.declared.portion.Undone.{Undone}
use Rattle.portion_ctl.specs.Views.{EndedView}

-- how many dirty lines are members of a signature
abbrev pub due_count : Sets → BackingView → ℕ
due_count reads b = count_by (is_member reads) (dirty_in b)

-- The rollback of a portion that came to this try: the core has the registers of the opening, and
-- the due flushes are as many as dirty lines are members of the lines that the try read.
pub record Backs
    (b : BackingView) (c : EndedView) (t : Try) (p : Portion) (undone : Undone) : Type 0 where
  pub core : undone.flushing.core ≡ c.try.core
  pub limits : undone.flushing.limits ≡ c.try.limits
  pub regs : undone.flushing.regs ≡ p.regs
  pub reads : IsSignatureOf undone.flushing.read_set t.reads
  pub due : undone.flushing.due ≡ member_count c.try.limits.sig_bits t.reads (dirty_in b)
  pub acts : undone.n ≡ p.acts
  pub cause : undone.cause ≡ c.cause
