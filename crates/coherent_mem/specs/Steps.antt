-- What a call does to a memory under caches: new tags, a new view, and the copies that follow.
use Rattle.std.specs.Prelude.{ℕ, ◌≡◌, ◌+◌, ◌-◌, ◌≤◌, ◌%◌, List, length}
use Rattle.conda_base.specs.Lines.{IsAccessSize}
use Rattle.conda_base.specs.Bytes.{value_at, stored}
use Rattle.conda_base.specs.declared.Line.{Line}
use Rattle.line_memory.specs.Tags.{Tags, no_tags}
use Rattle.line_memory.specs.Copies.{copy_after}
use Rattle.line_memory.specs.Owners.{HasSingleOwners}
use Rattle.line_memory.specs.Backing.{BackingView, HasSameNumbers, IsBacking, IsInRange, shape_of, copy_of, view_of}

-- `new` is `old` with these tags and this view, and with the copies that follow
pub record StepsTo (after : Tags) (bytes : List ℕ) (old new : BackingView) : Type 0 where
  pub numbers : HasSameNumbers old new
  pub tags : new.tags ≡ after
  pub view : new.view ≡ bytes
  pub copies : (l : Line) → IsInRange old l →
      copy_of new l
      ≡ copy_after (shape_of new) old.tags new.tags l
      (copy_of old l) (view_of old l) (view_of new l)

-- what every coherent memory keeps
pub record IsCoherent (b : BackingView) : Type 0 where
  pub backing : IsBacking b
  pub few : b.holders ≤ 12
  pub owners : HasSingleOwners (shape_of b) b.tags

-- an aligned access of 1, 2 or 4 bytes in memory
pub record IsAccessTo (b : BackingView) (addr n : ℕ) : Type 0 where
  pub size : IsAccessSize n
  pub aligned : addr % n ≡ 0
  pub from : b.base ≤ addr
  pub within : addr + n ≤ b.base + length b.view

-- the number that users see at an address, and what they see after a store there
abbrev pub value_seen : BackingView → ℕ → ℕ → ℕ
value_seen b addr size = value_at b.view (addr - b.base) size

abbrev pub view_stored : BackingView → ℕ → ℕ → ℕ → List ℕ
view_stored b addr size value = stored b.view (addr - b.base) size value

-- a memory that nobody has used: users see memory's own bytes, and nobody holds a line
abbrev pub unused : ℕ → ℕ → ℕ → ℕ → ℕ → List ℕ → BackingView
unused line_bytes holders sets ways base bytes = record {
  line_bytes = line_bytes;
  base = base;
  holders = holders;
  sets = sets;
  ways = ways;
  view = bytes;
  copies = bytes;
  tags = no_tags;
}
