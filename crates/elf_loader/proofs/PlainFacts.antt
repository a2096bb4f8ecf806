-- What is loaded of a plain image.
use Rattle.std.proofs.Common.{◌≡◌, ℕ, zero, suc, ◌+◌, ◌-◌, ◌*◌, ◌%◌, ◌^◌, ◌<◌, ◌≤◌, Bool, true, false, cond, ◌&&◌, ◌||◌, not, eqb, leb, ltb, List, [], ◌∷◌, ◌++◌, length, get_or, take, drop, replicate, Some, None, refl, sym, ap, ◌∙◌, arith, length-append, append_assoc}
use Rattle.std.specs.Prelude.{slice_index}
use Rattle.std.specs.List.{position}
use Rattle.std.specs.Option.{option_map}
use Rattle.std.proofs.lemmas.Bool.Decides.{nat_tests}
use Rattle.std.proofs.lemmas.List.{length-replicate, get_or-replicate, get_or_append_left, get_or-append_right, get_or-drop, drop-drop, drop_at, ext_get_or}
use Rattle.byteorder.specs.Numbers.{little_number-reads_back}
use Rattle.conda_base.specs.Bytes.{number_of, value_at}
use Rattle.rv32_hart.specs.Code.{word_at, is_fetched}
use Rattle.elf_loader.specs.declared.header.Header.{Header}
use Rattle.elf_loader.specs.declared.segment.Segment.{Segment}
use Rattle.elf_loader.specs.declared.fault.ImageFault.{ImageFault}
use Rattle.elf_loader.specs.declared.fault.ImageFault.TheVariants.{TableOutside, BadSegment, SegmentOutside, Overlap, NoSegment, BadEntry}
use Rattle.elf_loader.specs.Header.{header_of, is_table_outside}
use Rattle.elf_loader.specs.Segments.{segments_of, is_live, is_bad, is_outside, is_fetchable, overlaps, overlaps_earlier, numbered, holds_word, has_no_live, is_bad_entry}
use Rattle.elf_loader.specs.Refusal.{first_some, fault_when, refusal}
use Rattle.elf_loader.specs.Loaded.{holds, segment_byte, loaded_byte, loaded_bytes, fetch_ranges, code_of}
use Rattle.elf_loader.specs.Plain.{word, words_bytes, plain, memory_with, IsPlainIn}
use Rattle.elf_loader.proofs.SegmentFacts.{position_is_none}
use Rattle.elf_loader.proofs.LoadedFacts.{length-loaded, loaded_at}
use Rattle.elf_loader.proofs.RefusalFacts.{kept_one, long_enough, past_segments, segment_rules}

-- a word gives its number back
word_value : (n : ℕ) → n < 2 ^ 32 → number_of (word n) ≡ n
word_value n h = little_number-reads_back 4 n [] h

-- the words have four bytes each, and the headers 84
length-words_bytes : (words : List ℕ) → length (words_bytes words) ≡ 4 * length words
length-words_bytes [] = refl
length-words_bytes (w ∷ words) = let rest = length-words_bytes words in omega arith

length-plain : (at : ℕ) (words : List ℕ) → length (plain at words) ≡ 84 + 4 * length words
length-plain at words = let rest = length-words_bytes words in omega arith

-- its header and its program header
abbrev pub plain_header : ℕ → Header
plain_header at = record {
  ei_magic = 127 ∷ 69 ∷ 76 ∷ 70 ∷ [];
  ei_class = 1;
  ei_data = 1;
  ei_version = 1;
  e_type = 2;
  e_machine = 243;
  e_version = 1;
  e_entry = at;
  e_phoff = 52;
  e_flags = 0;
  e_ehsize = 52;
  e_phentsize = 32;
  e_phnum = 1;
}

abbrev pub plain_segment : ℕ → ℕ → Segment
plain_segment at size = record { p_type = 1; p_offset = 84; p_vaddr = at; p_filesz = size; p_memsz = size; p_flags = 7 }

pub header_of-plain : (at : ℕ) (words : List ℕ) → at < 2 ^ 32 → plain_header at ≡ header_of (plain at words)
header_of-plain at words h = ap plain_header (sym (word_value at h))

pub segments_of-plain : (at : ℕ) (words : List ℕ) → at < 2 ^ 32 → 4 * length words < 2 ^ 32 → plain_segment at (4 * length words) ∷ [] ≡ segments_of (plain at words)
segments_of-plain at words h long =
    ap (λ a. plain_segment a (4 * length words) ∷ []) (sym (word_value at h))
    ∙ ap (λ n. plain_segment (number_of (word at)) n ∷ []) (sym (word_value (4 * length words) long))

-- so many bytes at an address lie in memory and below 2 ^ 32
record Lies (file_bytes at size base memory : ℕ) : Type 0 where
  some : 4 ≤ size
  aligned : at % 4 ≡ 0
  from : base ≤ at
  to : at + size ≤ base + memory
  there : 84 + size ≤ file_bytes

-- the rules on its program header are kept
position_of_one : (p : Segment → Bool) (s : Segment) → p s ≡ false → position p (s ∷ []) ≡ None
position_of_one p s h = position_is_none p (s ∷ []) s at
  where
    at : (k : ℕ) → k < 1 → p (get_or (s ∷ []) k s) ≡ false
    at zero below = h
    at (suc k) below = absurd (omega arith)

kept_at : (fault : ℕ → ImageFault) (p : Segment → Bool) (s : Segment) → p s ≡ false → option_map fault (position p (s ∷ [])) ≡ None
kept_at fault p s h = ap (option_map fault) (position_of_one p s h)

kept_when : (b : Bool) (fault : ImageFault) → b ≡ false → fault_when b fault ≡ None
kept_when b fault h = ap (λ c. fault_when c fault) h

alone : (s : Segment) → overlaps [] s ≡ false
alone s = go (is_live s)
  where
    go : (b : Bool) → (b && false) ≡ false
    go true = refl
    go false = refl

alone_overlaps : (s : Segment) → position (overlaps_earlier (s ∷ [])) (numbered (s ∷ [])) ≡ None
alone_overlaps s = go (overlaps [] s) (alone s)
  where
    go : (b : Bool) → b ≡ false → position (λ (c : Bool). c) (b ∷ []) ≡ None
    go true h = cc
    go false h = refl

table_test : (file_bytes at : ℕ) → 84 ≤ file_bytes → is_table_outside file_bytes (plain_header at) ≡ false
table_test file_bytes at h = grind (arith, nat_tests)

bad_test : (file_bytes at size base memory : ℕ) → Lies file_bytes at size base memory → is_bad file_bytes (plain_segment at size) ≡ false
bad_test file_bytes at size base memory lies =
    let some = lies.some in
    let there = lies.there in grind (arith, nat_tests)

outside_test : (file_bytes at size base memory : ℕ) → Lies file_bytes at size base memory → is_outside base memory (plain_segment at size) ≡ false
outside_test file_bytes at size base memory lies =
    let from = lies.from in
    let to = lies.to in grind (arith, nat_tests)

live_test : (at size : ℕ) → 4 ≤ size → is_live (plain_segment at size) ≡ true
live_test at size h = grind (arith, nat_tests)

no_live_test : (at size : ℕ) → 4 ≤ size → has_no_live (plain_segment at size ∷ []) ≡ false
no_live_test at size h = ap (λ b. not (b || false)) (live_test at size h)

word_test : (at size : ℕ) → 4 ≤ size → holds_word at (plain_segment at size) ≡ true
word_test at size h = grind (arith, nat_tests)

entry_test : (at size : ℕ) → at % 4 ≡ 0 → 4 ≤ size → is_bad_entry at (plain_segment at size ∷ []) ≡ false
entry_test at size aligned h =
    ap (λ r. not (eqb r 0 && (holds_word at (plain_segment at size) || false))) aligned ∙ ap (λ b. not (b || false)) (word_test at size h)

-- a plain image is accepted
accepted_by_parts : (file : List ℕ) (at size base memory : ℕ) → Lies (length file) at size base memory → plain_header at ≡ header_of file
    → plain_segment at size ∷ [] ≡ segments_of file → refusal file base memory ≡ None
accepted_by_parts file at size base memory lies is_h is_s =
    let some = lies.some in
    let there = lies.there in
    let h = plain_header at in
    let s = plain_segment at size in
    let outside = option_map SegmentOutside (position (is_outside base memory) (s ∷ [])) in
    let bad = option_map BadSegment (position (is_bad (length file)) (s ∷ [])) in
    let overlap = option_map Overlap (position (overlaps_earlier (s ∷ [])) (numbered (s ∷ []))) in
    let segments : first_some (segment_rules (length file) base memory (s ∷ [])) ≡ None =
    kept_one bad (outside ∷ overlap ∷ []) (kept_at BadSegment (is_bad (length file)) s (bad_test (length file) at size base memory lies))
    ∙ kept_one outside (overlap ∷ []) (kept_at SegmentOutside (is_outside base memory) s (outside_test (length file) at size base memory lies))
    ∙ kept_one overlap [] (ap (option_map Overlap) (alone_overlaps s)) in
    past_segments file h (s ∷ []) base memory (long_enough file (omega arith)) is_h is_s refl refl
    (kept_one (fault_when (is_table_outside (length file) h) TableOutside) [] (kept_when _ TableOutside (table_test (length file) at (omega arith)))) segments
    ∙ kept_one (fault_when (has_no_live (s ∷ [])) NoSegment) (fault_when (is_bad_entry at (s ∷ [])) (BadEntry at) ∷ []) (kept_when _ NoSegment (no_live_test at size some))
    ∙ kept_one (fault_when (is_bad_entry at (s ∷ [])) (BadEntry at)) [] (kept_when _ (BadEntry at) (entry_test at size lies.aligned some))

pub refusal-plain : (at base size : ℕ) (words : List ℕ) → IsPlainIn at (length words) base size → base + size ≤ 2 ^ 32 → size < 2 ^ 32
    → refusal (plain at words) base size ≡ None
refusal-plain at base size words fits room small =
    let long = length-plain at words in
    let some = fits.some in
    let from = fits.from in
    let to = fits.to in
    let lies : Lies (length (plain at words)) at (4 * length words) base size =
    record { some = omega arith; aligned = fits.aligned; from = from; to = to; there = omega arith } in
    accepted_by_parts (plain at words) at (4 * length words) base size lies (header_of-plain at words (omega arith)) (segments_of-plain at words (omega arith) (omega arith))

-- its one range
pub fetch_ranges-plain : (at : ℕ) (words : List ℕ) → at < 2 ^ 32 → 4 * length words < 2 ^ 32 → 0 < length words
    → fetch_ranges (segments_of (plain at words)) ≡ (at, 4 * length words) ∷ []
fetch_ranges-plain at words h long some =
    ap fetch_ranges (sym (segments_of-plain at words h long)) ∙ one (plain_segment at (4 * length words)) (fetchable at (4 * length words) (omega arith))
  where
    one : (s : Segment) → is_fetchable s ≡ true → fetch_ranges (s ∷ []) ≡ (s.p_vaddr, s.p_memsz) ∷ []
    one s h = rw h refl

    fetchable : (at size : ℕ) → 4 ≤ size → is_fetchable (plain_segment at size) ≡ true
    fetchable at size h = grind (arith, nat_tests)

-- its byte at an address
byte_in : (file : List ℕ) (at size addr : ℕ) → 4 ≤ size → at ≤ addr → addr < at + size
    → loaded_byte file (plain_segment at size ∷ []) addr ≡ slice_index file (84 + (addr - at))
byte_in file at size addr some low high =
    let here : holds addr (plain_segment at size) ≡ true = grind (arith, nat_tests) in
    let part : ltb (addr - at) size ≡ true = grind (arith, nat_tests) in
    ap (λ b. cond b (segment_byte file (plain_segment at size) addr) 0) here ∙ ap (λ b. cond b (slice_index file (84 + (addr - at))) 0) part

byte_out : (file : List ℕ) (at size addr : ℕ) → 4 ≤ size → holds addr (plain_segment at size) ≡ false
    → loaded_byte file (plain_segment at size ∷ []) addr ≡ 0
byte_out file at size addr some off = ap (λ b. cond b (segment_byte file (plain_segment at size) addr) 0) off

-- the byte that is meant there
meant_below : (base size at k : ℕ) (body : List ℕ) → k < at - base → get_or (memory_with base size at body) k 0 ≡ 0
unfolding memory_with
meant_below base size at k body below =
    let zeros : length (replicate {A = ℕ} (at - base) 0) ≡ at - base = length-replicate (at - base) 0 in
    let tail = replicate (base + size - (at + length body)) 0 in
    get_or_append_left (replicate (at - base) 0 ++ body) tail 0 k (omega (arith, length-append (replicate {A = ℕ} (at - base) 0) body))
    ∙ get_or_append_left (replicate (at - base) 0) body 0 k (omega arith) ∙ get_or-replicate (at - base) k 0 0 below

meant_in : (base size at k : ℕ) (body : List ℕ) → at - base ≤ k → k < at - base + length body → get_or (memory_with base size at body) k 0 ≡ get_or body (k - (at - base)) 0
unfolding memory_with
meant_in base size at k body low high =
    let zeros : length (replicate {A = ℕ} (at - base) 0) ≡ at - base = length-replicate (at - base) 0 in
    let tail = replicate (base + size - (at + length body)) 0 in
    get_or_append_left (replicate (at - base) 0 ++ body) tail 0 k (omega (arith, length-append (replicate {A = ℕ} (at - base) 0) body))
    ∙ get_or-append_right (replicate (at - base) 0) body (at - base) k 0 zeros low

meant_above : (base size at k : ℕ) (body : List ℕ) → base ≤ at → at - base + length body ≤ k → k < size → get_or (memory_with base size at body) k 0 ≡ 0
unfolding memory_with
meant_above base size at k body from high within =
    let zeros : length (replicate {A = ℕ} (at - base) 0) ≡ at - base = length-replicate (at - base) 0 in
    let front : length (replicate (at - base) 0 ++ body) ≡ at - base + length body = length-append (replicate {A = ℕ} (at - base) 0) body ∙ ap (λ n. n + length body) zeros in
    get_or-append_right (replicate (at - base) 0 ++ body) (replicate (base + size - (at + length body)) 0) (at - base + length body) k 0 front high
    ∙ get_or-replicate (base + size - (at + length body)) (k - (at - base + length body)) 0 0 (omega arith)

length-memory_with : (base size at : ℕ) (body : List ℕ) → base ≤ at → at + length body ≤ base + size → length (memory_with base size at body) ≡ size
unfolding memory_with
length-memory_with base size at body from to =
    omega (
      arith,
      length-append (replicate {A = ℕ} (at - base) 0 ++ body) (replicate (base + size - (at + length body)) 0),
      length-append (replicate {A = ℕ} (at - base) 0) body,
      length-replicate {A = ℕ} (at - base) 0,
      length-replicate {A = ℕ} (base + size - (at + length body)) 0,
    )

-- the file's bytes behind its headers are the words'
body_at : (at j : ℕ) (words : List ℕ) → slice_index (plain at words) (84 + j) ≡ get_or (words_bytes words) j 0
body_at at j words = sym (get_or-drop 84 (plain at words) j 0)

-- its bytes in memory
same_byte : (at base size k : ℕ) (words : List ℕ) → IsPlainIn at (length words) base size → k < size
    → loaded_byte (plain at words) (plain_segment at (4 * length words) ∷ []) (base + k) ≡ get_or (memory_with base size at (words_bytes words)) k 0
same_byte at base size k words fits within = by_place (leb (at - base) k) refl (leb (at - base + 4 * length words) k) refl
  where
    by_place : (l : Bool) → leb (at - base) k ≡ l → (h : Bool) → leb (at - base + 4 * length words) k ≡ h
        → loaded_byte (plain at words) (plain_segment at (4 * length words) ∷ []) (base + k) ≡ get_or (memory_with base size at (words_bytes words)) k 0
    by_place false is h past =
        let below : k < at - base = grind (arith, nat_tests) in
        let some = fits.some in
        let off : holds (base + k) (plain_segment at (4 * length words)) ≡ false = grind (arith, nat_tests) in
        byte_out (plain at words) at (4 * length words) (base + k) (omega arith) off ∙ sym (meant_below base size at k (words_bytes words) below)
    by_place true is true past =
        let above : at - base + 4 * length words ≤ k = grind (arith, nat_tests) in
        let some = fits.some in
        let from = fits.from in
        let long = length-words_bytes words in
        let off : holds (base + k) (plain_segment at (4 * length words)) ≡ false = grind (arith, nat_tests) in
        byte_out (plain at words) at (4 * length words) (base + k) (omega arith) off
        ∙ sym (meant_above base size at k (words_bytes words) from (omega arith) within)
    by_place true is false past =
        let low : at - base ≤ k = grind (arith, nat_tests) in
        let high : k < at - base + 4 * length words = grind (arith, nat_tests) in
        let some = fits.some in
        let from = fits.from in
        let long = length-words_bytes words in
        byte_in (plain at words) at (4 * length words) (base + k) (omega arith) (omega arith) (omega arith)
        ∙ body_at at (base + k - at) words ∙ ap (λ j. get_or (words_bytes words) j 0) (omega arith)
        ∙ sym (meant_in base size at k (words_bytes words) low (omega arith))

pub loaded-plain : (at base size : ℕ) (words : List ℕ) → IsPlainIn at (length words) base size → base + size ≤ 2 ^ 32 → size < 2 ^ 32
    → loaded_bytes (plain at words) base size ≡ memory_with base size at (words_bytes words)
loaded-plain at base size words fits room small =
    let some = fits.some in
    let from = fits.from in
    let to = fits.to in
    let long = length-words_bytes words in
    let meant = length-memory_with base size at (words_bytes words) from (omega arith) in
    let made = length-loaded (plain at words) base size in
    ext_get_or 0 (loaded_bytes (plain at words) base size) (memory_with base size at (words_bytes words)) (omega arith)
    (λ k h. loaded_at (plain at words) base size k (omega arith)
    ∙ ap (λ s. loaded_byte (plain at words) s (base + k)) (sym (segments_of-plain at words (omega arith) (omega arith)))
    ∙ same_byte at base size k words fits (omega arith))

-- its words, where they may be fetched
words_at : (words tail : List ℕ) (i : ℕ) → i < length words → take 4 (drop (4 * i) (words_bytes words ++ tail)) ≡ word (get_or words i 0)
words_at [] tail i h = absurd (omega arith)
words_at (w ∷ words) tail zero h = refl
words_at (w ∷ words) tail (suc i) h =
    let next : 4 * suc i ≡ 4 + 4 * i = omega arith in
    ap (λ n. take 4 (drop n (words_bytes (w ∷ words) ++ tail))) next
    ∙ ap (take 4) (sym (drop-drop (4 * i) 4 (words_bytes (w ∷ words) ++ tail))) ∙ words_at words tail i (omega arith)

value_in : (base size at i : ℕ) (words : List ℕ) → i < length words
    → value_at (memory_with base size at (words_bytes words)) (at - base + 4 * i) 4 ≡ number_of (word (get_or words i 0))
unfolding memory_with
value_in base size at i words within =
    let zeros = replicate {A = ℕ} (at - base) 0 in
    let tail = replicate {A = ℕ} (base + size - (at + length (words_bytes words))) 0 in
    let front : drop (at - base) (zeros ++ words_bytes words ++ tail) ≡ words_bytes words ++ tail =
    ap (drop (at - base)) (append_assoc zeros (words_bytes words) tail) ∙ drop_at zeros (words_bytes words ++ tail) (at - base) (length-replicate (at - base) 0) in
    ap (λ l. number_of (take 4 l)) (sym (drop-drop (4 * i) (at - base) (zeros ++ words_bytes words ++ tail)) ∙ ap (drop (4 * i)) front)
    ∙ ap number_of (words_at words tail i within)

fetched : (at size pc : ℕ) → pc % 4 ≡ 0 → at ≤ pc → pc + 4 ≤ at + size → (eqb (pc % 4) 0 && is_fetched ((at, size) ∷ []) pc) ≡ true
fetched at size pc aligned low high = grind (arith, nat_tests)

pub word_at-plain : (at base size i : ℕ) (words : List ℕ) → IsPlainIn at (length words) base size → base + size ≤ 2 ^ 32 → size < 2 ^ 32 → i < length words
    → get_or words i 0 < 2 ^ 32 → word_at (code_of (plain at words) base size) (at + 4 * i) ≡ Some (get_or words i 0)
word_at-plain at base size i words fits room small within word_fits =
    let some = fits.some in
    let from = fits.from in
    let to = fits.to in
    let aligned = fits.aligned in
    let ranges = fetch_ranges-plain at words (omega arith) (omega arith) some in
    let bytes = loaded-plain at base size words fits room small in
    let whole : (at + 4 * i) % 4 ≡ 0 = grind arith in
    let test = ap (λ r. eqb ((at + 4 * i) % 4) 0 && is_fetched r (at + 4 * i)) ranges ∙ fetched at (4 * length words) (at + 4 * i) whole (omega arith) (omega arith) in
    let value : value_at (loaded_bytes (plain at words) base size) (at + 4 * i - base) 4 ≡ get_or words i 0 =
    ap (λ l. value_at l (at + 4 * i - base) 4) bytes
    ∙ ap (λ p. value_at (memory_with base size at (words_bytes words)) p 4) (omega arith)
    ∙ value_in base size at i words within ∙ word_value (get_or words i 0) word_fits in
    ap (λ b. cond b (Some (value_at (loaded_bytes (plain at words) base size) (at + 4 * i - base) 4)) None) test ∙ ap (λ v. Some v) value
