-- Bytes that are copied into memory.
use Rattle.std.proofs.Common.{◌≡◌, ◌≢◌, ℕ, ◌+◌, ◌-◌, ◌<◌, ◌≤◌, Bool, true, false, cond, leb, List, ◌++◌, length, get_or, take, drop, refl, ap, ◌∙◌, arith}
use Rattle.std.specs.Prelude.{slice_index, slice_range}
use Rattle.std.proofs.lemmas.Bool.Decides.{nat_tests}
use Rattle.std.proofs.lemmas.List.{get_or_append_left, get_or-append_right, get_or-take, get_or-drop, length-take-le, length-take, length-drop}
use borrow.Rule.Slice.PartMut.{put_mid}
use Rattle.elf_loader.specs.declared.segment.Segment.{Segment}
use Rattle.elf_loader.specs.Loaded.{is_copied}
use Rattle.elf_loader.specs.Segments.{is_live, is_bad, is_outside}

-- what a write to a part of a list leaves at a place in that part, and elsewhere
written_in : (a k j : ℕ) (xs ys : List ℕ) → a + k ≤ length xs → length ys ≡ k → a ≤ j → j < a + k
    → slice_index (put_mid a k xs ys) j ≡ slice_index ys (j - a)
written_in a k j xs ys fit long low high =
    let front : length (take a xs) ≡ a = length-take-le a xs (omega arith) in
    get_or-append_right (take a xs) (ys ++ drop k (drop a xs)) a j 0 front low
    ∙ get_or_append_left ys (drop k (drop a xs)) 0 (j - a) (omega arith)

written_below : (a k j : ℕ) (xs ys : List ℕ) → a + k ≤ length xs → j < a → slice_index (put_mid a k xs ys) j ≡ slice_index xs j
written_below a k j xs ys fit low =
    let front : length (take a xs) ≡ a = length-take-le a xs (omega arith) in
    get_or_append_left (take a xs) (ys ++ drop k (drop a xs)) 0 j (omega arith) ∙ get_or-take a xs j 0 low

written_above : (a k j : ℕ) (xs ys : List ℕ) → a + k ≤ length xs → length ys ≡ k → a + k ≤ j → slice_index (put_mid a k xs ys) j ≡ slice_index xs j
written_above a k j xs ys fit long high =
    let front : length (take a xs) ≡ a = length-take-le a xs (omega arith) in
    get_or-append_right (take a xs) (ys ++ drop k (drop a xs)) a j 0 front (omega arith)
    ∙ get_or-append_right ys (drop k (drop a xs)) k (j - a) 0 long (omega arith)
    ∙ get_or-drop k (drop a xs) (j - a - k) 0 ∙ get_or-drop a xs (k + (j - a - k)) 0
    ∙ ap (λ i. get_or xs i 0) (omega arith)

-- a live segment's bytes lie in file and memory
record LiesIn (file_bytes base size : ℕ) (s : Segment) : Type 0 where
  from : base ≤ s.p_vaddr
  to : s.p_vaddr + s.p_memsz ≤ base + size
  part : s.p_filesz ≤ s.p_memsz
  there : s.p_filesz ≢ 0 → s.p_offset + s.p_filesz ≤ file_bytes

lies_in : (file_bytes base size : ℕ) (s : Segment) → is_live s ≡ true → is_bad file_bytes s ≡ false → is_outside base size s ≡ false
    → LiesIn file_bytes base size s
lies_in file_bytes base size s live good inside =
    record {
      from = grind (arith, nat_tests);
      to = grind (arith, nat_tests);
      part = grind (arith, nat_tests);
      there = λ some. grind (arith, nat_tests);
    }

-- which addresses are copied to
copied_to : (s : Segment) (addr : ℕ) → is_live s ≡ true → is_copied addr s ≡ true → (s.p_vaddr ≤ addr) × (addr < s.p_vaddr + s.p_filesz)
copied_to s addr live here = (grind (arith, nat_tests), grind (arith, nat_tests))

not_copied_to : (s : Segment) (addr : ℕ) → is_live s ≡ true → is_copied addr s ≡ false → s.p_vaddr ≤ addr → s.p_vaddr + s.p_filesz ≤ addr
not_copied_to s addr live off low = grind (arith, nat_tests)

-- what a copy of a segment's bytes leaves at a place
pub copied : (file memory ys : List ℕ) (base k n : ℕ) (s : Segment) → is_live s ≡ true → is_bad (length file) s ≡ false
    → is_outside base (length memory) s ≡ false → s.p_filesz ≢ 0 → n ≡ s.p_filesz
    → ys ≡ slice_range file s.p_offset (s.p_offset + s.p_filesz) → k < length memory
    → slice_index (put_mid (s.p_vaddr - base) n memory ys) k
    ≡ cond (is_copied (base + k) s) (slice_index file (s.p_offset + (base + k - s.p_vaddr))) (slice_index memory k)
copied file memory ys base k n s live good inside some count is within =
    let lies = lies_in (length file) base (length memory) s live good inside in
    let there = lies.there some in
    let from = lies.from in
    let to = lies.to in
    let part = lies.part in
    let long : length ys ≡ n =
    ap length is ∙ length-take (s.p_offset + s.p_filesz - s.p_offset) (drop s.p_offset file) ∙ omega (arith, length-drop s.p_offset file) in
    go (is_copied (base + k) s) refl long from to part
  where
    go : (b : Bool) → is_copied (base + k) s ≡ b → length ys ≡ n → base ≤ s.p_vaddr → s.p_vaddr + s.p_memsz ≤ base + length memory → s.p_filesz ≤ s.p_memsz
        → slice_index (put_mid (s.p_vaddr - base) n memory ys) k
        ≡ cond b (slice_index file (s.p_offset + (base + k - s.p_vaddr))) (slice_index memory k)
    go true hit long from to part =
        let bounds = copied_to s (base + k) live hit in
        let low = bounds.0 in
        let high = bounds.1 in
        written_in (s.p_vaddr - base) n k memory ys (omega arith) long (omega arith) (omega arith)
        ∙ ap (λ l. slice_index l (k - (s.p_vaddr - base))) is
        ∙ get_or-take (s.p_offset + s.p_filesz - s.p_offset) (drop s.p_offset file) (k - (s.p_vaddr - base)) 0 (omega arith)
        ∙ get_or-drop s.p_offset file (k - (s.p_vaddr - base)) 0
        ∙ ap (λ i. get_or file (s.p_offset + i) 0) (omega arith)
    go false off long from to part = elsewhere (leb (s.p_vaddr - base) k) refl
      where
        elsewhere : (b : Bool) → leb (s.p_vaddr - base) k ≡ b → slice_index (put_mid (s.p_vaddr - base) n memory ys) k ≡ slice_index memory k
        elsewhere true h =
            let here : s.p_vaddr - base ≤ k = grind (arith, nat_tests) in
            let past = not_copied_to s (base + k) live off (omega arith) in
            written_above (s.p_vaddr - base) n k memory ys (omega arith) long (omega arith)
        elsewhere false h =
            let here : k < s.p_vaddr - base = grind (arith, nat_tests) in
            written_below (s.p_vaddr - base) n k memory ys (omega arith) here
