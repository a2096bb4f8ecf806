-- The slots of a try's lines. A try uses the slots of the tries before it, and hides what they left there.
use Rattle.std.specs.Prelude.{ℕ, ◌≡◌, List, take, replicate, map, slice_index_or, slice_set, if◌then◌else◌}
use Rattle.conda_base.specs.Marks.{mixed}
use Rattle.conda_base.specs.declared.Line.{Line}
use Rattle.write_masks.specs.declared.Masked.{Masked}
use Rattle.nda_cache.specs.Tried.{Stores, unknown}

-- a line without what older tries left: where no byte was stored or filled, 0 stands
abbrev pub without_older : Masked → Masked
without_older masked = record {
  bytes = if masked.filled then masked.bytes else mixed masked.mask masked.bytes (replicate 128 0);
  mask = masked.mask;
  filled = masked.filled;
}

-- the lines of the first slots, which are in use
abbrev pub lines_used : List (Line × Masked) → ℕ → List (Line × Masked)
lines_used slots used = map (λ (slot : Line × Masked). (slot.0, without_older slot.1)) (take used slots)

-- How many bytes a line has, the lines in use in the order of their first access, and how many there may be.
pub record SlotLines : Type 0 where
  pub line_bytes : ℕ
  pub lines : List (Line × Masked)
  pub room : ℕ

-- the line at a place
abbrev pub slot_entry : SlotLines → ℕ → Line × Masked
slot_entry slots place = slice_index_or slots.lines place (record { 0 = 0 }, unknown)

-- a store into the line at a place; the others stay
pub record StoresIn (old new : SlotLines) (place offset size value : ℕ) : Type 0 where
  pub line : (slot_entry new place).0 ≡ (slot_entry old place).0
  pub stores : Stores (slot_entry old place).1 (slot_entry new place).1 offset size value
  pub others : new ≡ record old { lines = slice_set old.lines place (slot_entry new place) }
