-- The memory that tests use.
use Rattle.std.specs.Prelude.{◌≡◌, length}
use Rattle.line_memory.specs.Backing.{BackingView}
use Rattle.coherent_mem.specs.Steps.{IsCoherent}

-- 4096 bytes from address 0 on, under two holders with one set
pub record IsTestMemory (b : BackingView) : Type 0 where
  pub base : b.base ≡ 0
  pub size : length b.view ≡ 4096
  pub holders : b.holders ≡ 2
  pub sets : b.sets ≡ 1
  pub coherent : IsCoherent b
