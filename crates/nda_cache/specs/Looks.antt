-- What a load finds in a near-data cache.
use Rattle.std.specs.Prelude.{ℕ, Bool, ◌≡◌, ◌⊎◌, true, false}
use Rattle.conda_base.specs.Bytes.{value_at}
use Rattle.conda_base.specs.declared.Line.{Line}
use Rattle.write_masks.specs.Marks.{Covers}
use Rattle.write_masks.specs.declared.Masked.{Masked}
use Rattle.nda_cache.specs.Tried.{Tried, HasRoom, WritesLine, known_of}
use Rattle.nda_cache.specs.declared.cache.Look.{Look}
use Rattle.nda_cache.specs.declared.cache.Look.TheVariants.{Known, Missing, Full}
use Rattle.nda_cache.specs.declared.cache.Stored.{Stored}
use Rattle.nda_cache.specs.declared.cache.Stored.TheVariants as Store_is

-- the bytes of an access were stored, or their line was filled
abbrev pub IsKnown : Tried → Line → ℕ → ℕ → Type 0
IsKnown t l offset size = ((known_of t l).filled ≡ true) ⊎ Covers (known_of t l).mask offset size

-- not all bytes of an access were stored, and the line wasn't filled but may be
pub record NeedsFill (t : Tried) (l : Line) (offset size : ℕ) : Type 0 where
  pub uncovered : Covers (known_of t l).mask offset size → ⊥
  pub unfilled : (known_of t l).filled ≡ false
  pub room : HasRoom t l

-- the bytes of an access to a line are known, with this value; or the line needs a fill; or its set is full
abbrev pub Looks : Tried → Line → ℕ → ℕ → Look → Type 0
Looks t l offset size (Known value) =
    IsKnown t l offset size × HasRoom t l × (value ≡ value_at (known_of t l).bytes offset size)
Looks t l offset size Missing = NeedsFill t l offset size
Looks t l offset size Full = HasRoom t l → ⊥

-- the same within one line, which is there
abbrev pub LooksIn : Masked → ℕ → ℕ → Look → Type 0
LooksIn masked offset size (Known value) =
    ((masked.filled ≡ true) ⊎ Covers masked.mask offset size) × (value ≡ value_at masked.bytes offset size)
LooksIn masked offset size Missing = (Covers masked.mask offset size → ⊥) × (masked.filled ≡ false)
LooksIn masked offset size Full = ⊥

-- a store that may be refused: without room, or refused, nothing changes
abbrev pub StoresUnless : Tried → Bool → Line → ℕ → ℕ → ℕ → Stored → Tried → Type 0
StoresUnless old refused l offset size value Store_is.Full new = (HasRoom old l → ⊥) × (new ≡ old)
StoresUnless old refused l offset size value Store_is.Refused new = HasRoom old l × (refused ≡ true) × (new ≡ old)
StoresUnless old refused l offset size value Store_is.Done new =
    HasRoom old l × (refused ≡ false) × WritesLine old new l offset size value
