-- Memory that was filled by some segments.
use Rattle.std.proofs.Common.{◌≡◌, ℕ, ◌+◌, ◌-◌, ◌<◌, ◌≤◌, Bool, true, false, cond, ltb, ◌&&◌, ◌||◌, List, [], ◌∷◌, ◌++◌, length, get_or, take, map, refl, sym, ap, ◌∙◌, arith}
use Rattle.std.specs.Prelude.{slice_index}
use Rattle.std.specs.List.{list_any, range_with_len}
use Rattle.std.proofs.lemmas.Bool.Decides.{nat_tests}
use Rattle.std.proofs.lemmas.List.{take_more, take_all, ext_get_or}
use Rattle.std.proofs.lemmas.List.FromFn.{length-map-range_with_len, get_or-map-range_with_len}
use Rattle.elf_loader.specs.declared.segment.Segment.{Segment}
use Rattle.elf_loader.specs.Loaded.{holds, segment_byte, loaded_byte, is_copied}
use Rattle.elf_loader.specs.Segments.{is_live, is_bad, shares_address, overlaps}

-- memory from `base` on has the bytes of these segments, and zeros elsewhere
pub record IsFilledBy (file : List ℕ) (segments : List Segment) (base size : ℕ) (memory : List ℕ) : Type 0 where
  pub long : length memory ≡ size
  pub bytes : (k : ℕ) → k < size → get_or memory k 0 ≡ loaded_byte file segments (base + k)

-- one segment more
byte_at-push : (file : List ℕ) (segments : List Segment) (s : Segment) (addr : ℕ)
    → loaded_byte file (segments ++ s ∷ []) addr
    ≡ cond (list_any (holds addr) segments) (loaded_byte file segments addr) (cond (holds addr s) (segment_byte file s addr) 0)
byte_at-push file [] s addr = refl
byte_at-push file (t ∷ segments) s addr = go (holds addr t) (byte_at-push file segments s addr)
  where
    go : (b : Bool) → loaded_byte file (segments ++ s ∷ []) addr
        ≡ cond (list_any (holds addr) segments) (loaded_byte file segments addr) (cond (holds addr s) (segment_byte file s addr) 0)
        → cond b (segment_byte file t addr) (loaded_byte file (segments ++ s ∷ []) addr)
        ≡ cond (b || list_any (holds addr) segments) (cond b (segment_byte file t addr) (loaded_byte file segments addr)) (cond (holds addr s) (segment_byte file s addr) 0)
    go true rest = refl
    go false rest = rest

-- an address in no segment has the byte 0
pub byte_at_none : (file : List ℕ) (segments : List Segment) (addr : ℕ) → list_any (holds addr) segments ≡ false → loaded_byte file segments addr ≡ 0
byte_at_none file [] addr h = refl
byte_at_none file (t ∷ segments) addr h = go (holds addr t) h (byte_at_none file segments addr)
  where
    go : (b : Bool) → (b || list_any (holds addr) segments) ≡ false → (list_any (holds addr) segments ≡ false → loaded_byte file segments addr ≡ 0)
        → cond b (segment_byte file t addr) (loaded_byte file segments addr) ≡ 0
    go true h rest = cc
    go false h rest = rest h

-- two segments that hold an address share it
shared : (addr : ℕ) (s t : Segment) → holds addr s ≡ true → holds addr t ≡ true → (is_live t && shares_address s t) ≡ true
shared addr s t here there = grind (arith, nat_tests)

-- a segment that overlaps none of these holds no address of theirs
apart : (addr : ℕ) (s : Segment) (segments : List Segment) → list_any (λ t. is_live t && shares_address s t) segments ≡ false
    → list_any (holds addr) segments ≡ true → holds addr s ≡ true → ⊥
apart addr s [] none some here = cc
apart addr s (t ∷ segments) none some here =
    go (holds addr t) refl (is_live t && shares_address s t) refl none some (apart addr s segments)
  where
    go : (b : Bool) → holds addr t ≡ b → (o : Bool) → (is_live t && shares_address s t) ≡ o
        → (o || list_any (λ u. is_live u && shares_address s u) segments) ≡ false → (b || list_any (holds addr) segments) ≡ true
        → (list_any (λ u. is_live u && shares_address s u) segments ≡ false → list_any (holds addr) segments ≡ true → holds addr s ≡ true → ⊥) → ⊥
    go true is o meets none some rest = let yes = shared addr s t here is in no_both o (sym meets ∙ yes) none
      where
        no_both : (o : Bool) → o ≡ true → (o || list_any (λ u. is_live u && shares_address s u) segments) ≡ false → ⊥
        no_both true h none = cc
        no_both false h none = cc
    go false is true meets none some rest = cc
    go false is false meets none some rest = rest none some here

pub no_meeting : (addr : ℕ) (s : Segment) (segments : List Segment) → overlaps segments s ≡ false
    → holds addr s ≡ true → list_any (holds addr) segments ≡ true → ⊥
no_meeting addr s segments distinct here some =
    apart addr s segments (lone (is_live s) _ (alive (is_live s) _ here) distinct) some here
  where
    alive : (a b : Bool) → (a && b) ≡ true → a ≡ true
    alive true b h = refl
    alive false b h = cc

    lone : (a b : Bool) → a ≡ true → (a && b) ≡ false → b ≡ false
    lone true b h none = none
    lone false b h none = cc

-- what the file has of a segment lies in it
held : (file_bytes addr : ℕ) (s : Segment) → is_bad file_bytes s ≡ false → is_copied addr s ≡ true → holds addr s ≡ true
held file_bytes addr s good copied = grind (arith, nat_tests)

-- and the rest of it is 0
same_test : (addr : ℕ) (s : Segment) → holds addr s ≡ true → ltb (addr - s.p_vaddr) s.p_filesz ≡ is_copied addr s
same_test addr s here = grind (arith, nat_tests)

byte_of_is : (file : List ℕ) (addr : ℕ) (s : Segment) → holds addr s ≡ true
    → segment_byte file s addr ≡ cond (is_copied addr s) (slice_index file (s.p_offset + (addr - s.p_vaddr))) 0
byte_of_is file addr s here = ap (λ b. cond b (slice_index file (s.p_offset + (addr - s.p_vaddr))) 0) (same_test addr s here)

by_cases : (any hold copied : Bool) (rest own moved old new : ℕ) → (hold ≡ true → any ≡ true → ⊥) → (copied ≡ true → hold ≡ true)
    → (hold ≡ true → own ≡ cond copied moved 0) → (any ≡ false → rest ≡ 0) → old ≡ rest → new ≡ cond copied moved old
    → new ≡ cond any rest (cond hold own 0)
by_cases true true copied rest own moved old new meet within own_is none was is = absurd (meet refl refl)
by_cases true false true rest own moved old new meet within own_is none was is = let no = within refl in cc
by_cases true false false rest own moved old new meet within own_is none was is = is ∙ was
by_cases false true true rest own moved old new meet within own_is none was is = is ∙ sym (own_is refl)
by_cases false true false rest own moved old new meet within own_is none was is = is ∙ was ∙ none refl ∙ sym (own_is refl)
by_cases false false true rest own moved old new meet within own_is none was is = let no = within refl in cc
by_cases false false false rest own moved old new meet within own_is none was is = is ∙ was ∙ none refl

-- a byte of memory before and after a segment is copied
byte_more : (file : List ℕ) (segments : List Segment) (s : Segment) (addr old new : ℕ) → is_bad (length file) s ≡ false → overlaps segments s ≡ false
    → old ≡ loaded_byte file segments addr
    → new ≡ cond (is_copied addr s) (slice_index file (s.p_offset + (addr - s.p_vaddr))) old
    → new ≡ loaded_byte file (segments ++ s ∷ []) addr
byte_more file segments s addr old new good distinct was is =
    by_cases (list_any (holds addr) segments) (holds addr s) (is_copied addr s) (loaded_byte file segments addr) (segment_byte file s addr)
    (slice_index file (s.p_offset + (addr - s.p_vaddr))) old new (no_meeting addr s segments distinct) (held (length file) addr s good)
    (byte_of_is file addr s) (byte_at_none file segments addr) was is
    ∙ sym (byte_at-push file segments s addr)

-- memory before and after
pub filled_more : (file : List ℕ) (segments : List Segment) (i : ℕ) (d s : Segment) (base size : ℕ) (old new : List ℕ)
    → i < length segments → s ≡ get_or segments i d → is_bad (length file) s ≡ false → overlaps (take i segments) s ≡ false
    → IsFilledBy file (take i segments) base size old → length new ≡ length old
    → ((k : ℕ) → k < length old → slice_index new k
    ≡ cond (is_copied (base + k) s) (slice_index file (s.p_offset + (base + k - s.p_vaddr))) (slice_index old k))
    → IsFilledBy file (take (i + 1) segments) base size new
filled_more file segments i d s base size old new within is good distinct filled long copied =
    let old_long = filled.long in
    let more : take (i + 1) segments ≡ take i segments ++ s ∷ [] = take_more segments i d within ∙ ap (λ t. take i segments ++ t ∷ []) (sym is) in
    record {
      long = omega arith;
      bytes = λ k h. byte_more file (take i segments) s (base + k) (get_or old k 0) (get_or new k 0) good distinct (filled.bytes k h) (copied k (omega arith))
          ∙ ap (λ t. loaded_byte file t (base + k)) (sym more);
    }

-- memory that was filled by all segments
pub filled_all : (file : List ℕ) (segments : List Segment) (n base size : ℕ) (memory : List ℕ) → length segments ≤ n
    → IsFilledBy file (take n segments) base size memory → memory ≡ map (loaded_byte file segments) (range_with_len base size)
filled_all file segments n base size memory all filled =
    let long = filled.long in
    let made = length-map-range_with_len (loaded_byte file segments) base size in
    ext_get_or 0 memory (map (loaded_byte file segments) (range_with_len base size)) (omega arith)
    (λ k h. filled.bytes k (omega arith) ∙ ap (λ t. loaded_byte file t (base + k)) (take_all n segments all)
    ∙ sym (get_or-map-range_with_len (loaded_byte file segments) base size k (base + k) 0 (omega arith) refl))
