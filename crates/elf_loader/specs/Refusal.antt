-- Which files aren't loaded, and why.
use Rattle.std.specs.Prelude.{ℕ, ◌≡◌, Bool, nat_lt, List, [], ◌∷◌, length, Option, Some, None, Result, Ok, Err, if◌then◌else◌}
use Rattle.std.specs.Option.{option_map}
use Rattle.std.specs.List.{position}
use Rattle.elf_loader.specs.Header.{header_of, is_not_elf, is_not_class32, is_not_little, has_bad_version, is_not_exec, is_not_riscv, has_bad_flags, has_bad_size, has_too_many, is_table_outside}
use Rattle.elf_loader.specs.Segments.{segments_of, is_dynamic, is_bad, is_outside, numbered, overlaps_earlier, has_no_live, is_bad_entry}
use Rattle.elf_loader.specs.declared.fault.ImageFault.{ImageFault}
use Rattle.elf_loader.specs.declared.fault.ImageFault.TheVariants.{Short, NotElf, NotClass32, NotLittle, BadVersion, NotExec, NotRiscv, BadFlags, BadHeaderSize, TooManySegments, TableOutside, Dynamic, BadSegment, SegmentOutside, Overlap, NoSegment, BadEntry}

-- a rule's fault, where the rule is broken
abbrev pub fault_when : Bool → ImageFault → Option ImageFault
fault_when broken fault = if broken then Some fault else None

-- the fault of the first rule that is broken
abbrev pub first_some : List (Option ImageFault) → Option ImageFault
first_some [] = None
first_some (None ∷ rules) = first_some rules
first_some (Some fault ∷ rules) = Some fault

-- the rules for a file that is loaded into the `size` bytes from `base` on, in their order. A rule on segments is
-- looked at over all of them before the next one; its fault holds the lowest number of a segment that breaks it.
unfoldable pub rules : List ℕ → ℕ → ℕ → List (Option ImageFault)
rules file base size =
    let header = header_of file in
    let segments = segments_of file in
    fault_when (nat_lt (length file) 52) Short
    ∷ fault_when (is_not_elf header) NotElf
    ∷ fault_when (is_not_class32 header) NotClass32
    ∷ fault_when (is_not_little header) NotLittle
    ∷ fault_when (has_bad_version header) BadVersion
    ∷ fault_when (is_not_exec header) NotExec
    ∷ fault_when (is_not_riscv header) NotRiscv
    ∷ fault_when (has_bad_flags header) (BadFlags header.e_flags)
    ∷ fault_when (has_bad_size header) BadHeaderSize
    ∷ fault_when (has_too_many header) (TooManySegments header.e_phnum)
    ∷ fault_when (is_table_outside (length file) header) TableOutside
    ∷ option_map Dynamic (position is_dynamic segments)
    ∷ option_map BadSegment (position (is_bad (length file)) segments)
    ∷ option_map SegmentOutside (position (is_outside base size) segments)
    ∷ option_map Overlap (position (overlaps_earlier segments) (numbered segments))
    ∷ fault_when (has_no_live segments) NoSegment
    ∷ fault_when (is_bad_entry header.e_entry segments) (BadEntry header.e_entry)
    ∷ []

-- why a file isn't loaded, if it isn't
abbrev pub refusal : List ℕ → ℕ → ℕ → Option ImageFault
refusal file base size = first_some (rules file base size)

-- an answer is the first fault of these rules, or comes where none is broken
abbrev pub IsVerdict : {T : Type 0} → Result T ImageFault → List (Option ImageFault) → Type 0
IsVerdict (Ok x) rules = first_some rules ≡ None
IsVerdict (Err fault) rules = first_some rules ≡ Some fault
