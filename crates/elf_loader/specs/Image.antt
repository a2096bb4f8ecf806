-- What clauses see of a loaded image.
use Rattle.std.specs.Prelude.{ℕ, List}
use Rattle.rv32_hart.specs.Code.{CodeView}
use Rattle.elf_loader.specs.Header.{header_of}
use Rattle.elf_loader.specs.Loaded.{code_of}

-- the address that harts start at, and the bytes with the ranges that may be fetched from
pub record ImageView : Type 0 where
  pub entry : ℕ
  pub code : CodeView

-- the image of a file in the `size` bytes from `base` on
abbrev pub image_of : List ℕ → ℕ → ℕ → ImageView
image_of file base size = record { entry = (header_of file).e_entry; code = code_of file base size }
