-- What is loaded of a file.
use Rattle.std.proofs.Common.{◌≡◌, ℕ, ◌+◌, ◌<◌, List, length, get_or, map, refl, sym, ap, ◌∙◌, subst}
use Rattle.std.specs.Prelude.{All}
use Rattle.std.specs.List.{range_with_len}
use Rattle.std.proofs.lemmas.List.FromFn.{length-map-range_with_len, get_or-map-range_with_len}
use Rattle.rv32_hart.specs.Code.{CodeView, IsRangeIn}
use Rattle.elf_loader.specs.declared.segment.Segment.{Segment}
use Rattle.elf_loader.specs.Header.{header_of}
use Rattle.elf_loader.specs.Segments.{segments_of, IsLoadable}
use Rattle.elf_loader.specs.Loaded.{loaded_byte, loaded_bytes, fetch_ranges, code_of}
use Rattle.elf_loader.specs.Image.{ImageView, image_of}
use Rattle.elf_loader.proofs.RangeFacts.{ranges_in}

-- there are as many bytes as memory has
pub length-loaded : (file : List ℕ) (base size : ℕ) → length (loaded_bytes file base size) ≡ size
unfolding loaded_bytes
length-loaded file base size = length-map-range_with_len (loaded_byte file (segments_of file)) base size

-- the byte at an address
pub loaded_at : (file : List ℕ) (base size k : ℕ) → k < size → get_or (loaded_bytes file base size) k 0 ≡ loaded_byte file (segments_of file) (base + k)
unfolding loaded_bytes
loaded_at file base size k h = get_or-map-range_with_len (loaded_byte file (segments_of file)) base size k (base + k) 0 h refl

loaded_is : (file memory : List ℕ) (base size : ℕ) (s : List Segment) → s ≡ segments_of file → memory ≡ map (loaded_byte file s) (range_with_len base size)
    → memory ≡ loaded_bytes file base size
unfolding loaded_bytes
loaded_is file memory base size s is_s is = is ∙ ap (λ t. map (loaded_byte file t) (range_with_len base size)) is_s

-- the parts of an image, as they were made
pub length_made : (file memory : List ℕ) (base size n : ℕ) (s : List Segment) → n ≡ length memory → memory ≡ map (loaded_byte file s) (range_with_len base size) → n ≡ size
length_made file memory base size n s long is = long ∙ ap length is ∙ length-map-range_with_len (loaded_byte file s) base size

pub ranges_made : (file : List ℕ) (base size n : ℕ) (s t : List Segment) (ranges : List (ℕ × ℕ)) → IsLoadable (length file) base size t → s ≡ t → n ≡ size
    → ranges ≡ fetch_ranges s → All (IsRangeIn base n) ranges
ranges_made file base size n s t ranges loadable same long is =
    let within : All (IsRangeIn base size) (fetch_ranges t) = ranges_in (length file) base size t loadable.good loadable.inside in
    subst (λ m. All (IsRangeIn base m) ranges) (sym long) (subst (All (IsRangeIn base size)) (sym (is ∙ ap fetch_ranges same)) within)

pub image_made : (file memory : List ℕ) (base size entry : ℕ) (s : List Segment) (ranges : List (ℕ × ℕ)) (code : CodeView)
    → entry ≡ (header_of file).e_entry → s ≡ segments_of file → memory ≡ map (loaded_byte file s) (range_with_len base size) → ranges ≡ fetch_ranges s
    → code ≡ record { base = base; bytes = memory; ranges = ranges }
    → let made : ImageView = record { entry = entry; code = code } in made ≡ image_of file base size
image_made file memory base size entry s ranges code is_entry is_s is_memory is_ranges is_code =
    let bytes : memory ≡ loaded_bytes file base size = loaded_is file memory base size s is_s is_memory in
    let fetched : ranges ≡ fetch_ranges (segments_of file) = is_ranges ∙ ap fetch_ranges is_s in
    let same : code ≡ code_of file base size = is_code
    ∙ ap (λ b. let c : CodeView = record { base = base; bytes = b; ranges = ranges } in c) bytes
    ∙ ap (λ r. let c : CodeView = record { base = base; bytes = loaded_bytes file base size; ranges = r } in c) fetched in
    ap (λ e. let i : ImageView = record { entry = e; code = code } in i) is_entry
    ∙ ap (λ c. let i : ImageView = record { entry = (header_of file).e_entry; code = c } in i) same
