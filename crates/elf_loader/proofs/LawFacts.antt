-- What it means that a file isn't refused.
use Rattle.std.proofs.Common.{◌≡◌, ℕ, ◌+◌, ◌-◌, ◌%◌, ◌<◌, ◌≤◌, Bool, true, false, cond, ◌&&◌, ◌||◌, not, eqb, IsTrue, List, [], ◌∷◌, ◌++◌, length, get_or, take, drop, Some, None, refl, sym, ap, ◌∙◌, arith, rules}
use Rattle.std.specs.Prelude.{All, IsSome}
use Rattle.std.specs.List.{list_any}
use Rattle.std.proofs.lemmas.Bool.Decides.{nat_tests}
use Rattle.std.proofs.lemmas.List.{drop_more, take-append-drop}
use Rattle.conda_base.specs.Bytes.{value_at}
use Rattle.rv32_hart.specs.Code.{word_at, has_word, is_fetched}
use Rattle.elf_loader.specs.declared.segment.Segment.{Segment}
use Rattle.elf_loader.specs.Header.{header_of}
use Rattle.elf_loader.specs.Segments.{segments_of, is_fetchable, is_outside, holds_word, overlaps}
use Rattle.elf_loader.specs.Refusal.{refusal}
use Rattle.elf_loader.specs.Loaded.{holds, segment_byte, loaded_byte, loaded_bytes, range_of, fetch_ranges, code_of, IsInMemory, IsZeroElsewhere}
use Rattle.elf_loader.proofs.FillFacts.{no_meeting, byte_at_none}
use Rattle.elf_loader.proofs.RangeFacts.{with_range, fetch_ranges-cons}
use Rattle.elf_loader.proofs.LoadedFacts.{loaded_at}
use Rattle.elf_loader.proofs.RefusalFacts.{loadable_where_kept, entry_where_kept}

-- the byte at an address of a segment, where none before it holds the address
byte_at_found : (file : List ℕ) (before : List Segment) (s : Segment) (behind : List Segment) (addr : ℕ) → list_any (holds addr) before ≡ false
    → holds addr s ≡ true → loaded_byte file (before ++ s ∷ behind) addr ≡ segment_byte file s addr
byte_at_found file [] s behind addr none here = ap (λ b. cond b (segment_byte file s addr) (loaded_byte file behind addr)) here
byte_at_found file (t ∷ before) s behind addr none here = go (holds addr t) none (byte_at_found file before s behind addr)
  where
    go : (b : Bool) → (b || list_any (holds addr) before) ≡ false
        → (list_any (holds addr) before ≡ false → holds addr s ≡ true → loaded_byte file (before ++ s ∷ behind) addr ≡ segment_byte file s addr)
        → cond b (segment_byte file t addr) (loaded_byte file (before ++ s ∷ behind) addr) ≡ segment_byte file s addr
    go true none rest = cc
    go false none rest = rest none here

none_meets : (addr : ℕ) (s : Segment) (before : List Segment) → overlaps before s ≡ false → holds addr s ≡ true → list_any (holds addr) before ≡ false
none_meets addr s before distinct here = go (list_any (holds addr) before) (no_meeting addr s before distinct here)
  where
    go : (b : Bool) → (b ≡ true → ⊥) → b ≡ false
    go true h = absurd (h refl)
    go false h = refl

byte_of_segment : (file : List ℕ) (segments : List Segment) (k : ℕ) (d : Segment) (addr : ℕ) → k < length segments
    → overlaps (take k segments) (get_or segments k d) ≡ false → holds addr (get_or segments k d) ≡ true
    → loaded_byte file segments addr ≡ segment_byte file (get_or segments k d) addr
byte_of_segment file segments k d addr within distinct here =
    let whole : segments ≡ take k segments ++ get_or segments k d ∷ drop (k + 1) segments =
    sym (take-append-drop k segments) ∙ ap (λ r. take k segments ++ r) (drop_more segments k d within) in
    ap (λ s. loaded_byte file s addr) whole
    ∙ byte_at_found file (take k segments) (get_or segments k d) (drop (k + 1) segments) addr (none_meets addr (get_or segments k d) (take k segments) distinct here) here

held_inside : (base size addr : ℕ) (s : Segment) → is_outside base size s ≡ false → holds addr s ≡ true → (base ≤ addr) × (addr < base + size)
held_inside base size addr s inside here = (grind (arith, nat_tests), grind (arith, nat_tests))

pub in_memory : (file : List ℕ) (base size : ℕ) → refusal file base size ≡ None → All (IsInMemory file base (loaded_bytes file base size)) (segments_of file)
in_memory file base size kept k d within addr here =
    let loadable = loadable_where_kept file base size kept in
    let s = get_or (segments_of file) k d in
    let bounds = held_inside base size addr s (loadable.inside k d within) here in
    let low = bounds.0 in
    let high = bounds.1 in
    loaded_at file base size (addr - base) (omega arith) ∙ ap (loaded_byte file (segments_of file)) (omega arith)
    ∙ byte_of_segment file (segments_of file) k d addr within (loadable.apart k d within) here

is_false : (b : Bool) → IsTrue (not b) → b ≡ false
is_false true h = cc
is_false false h = refl

pub zero_elsewhere : (file : List ℕ) (base size : ℕ) → IsZeroElsewhere base size (loaded_bytes file base size) (segments_of file)
zero_elsewhere file base size addr low high none =
    loaded_at file base size (addr - base) (omega arith) ∙ ap (loaded_byte file (segments_of file)) (omega arith)
    ∙ byte_at_none file (segments_of file) addr (is_false _ none)

-- a word lies in an executable segment where it lies in a range
fetched_in : (addr : ℕ) (segments : List Segment) → list_any (holds_word addr) segments ≡ is_fetched (fetch_ranges segments) addr
fetched_in addr [] = refl
fetched_in addr (s ∷ segments) = go (is_fetchable s) (fetched_in addr segments) ∙ sym (ap (λ r. is_fetched r addr) (fetch_ranges-cons s segments))
  where
    go : (b : Bool) → list_any (holds_word addr) segments ≡ is_fetched (fetch_ranges segments) addr
        → (b && has_word addr (range_of s) || list_any (holds_word addr) segments) ≡ is_fetched (with_range b s (fetch_ranges segments)) addr
    go true rest = ap (λ c. has_word addr (range_of s) || c) rest
    go false rest = rest

pub entry_fetched : (file : List ℕ) (base size : ℕ) → refusal file base size ≡ None → IsSome (word_at (code_of file base size) (header_of file).e_entry)
entry_fetched file base size kept =
    let entry = (header_of file).e_entry in
    let good = entry_where_kept file base size kept in
    some (eqb (entry % 4) 0) (list_any (holds_word entry) (segments_of file)) (is_fetched (fetch_ranges (segments_of file)) entry) (value_at (loaded_bytes file base size) (entry - base) 4)
    good (fetched_in entry (segments_of file))
  where
    some : (aligned held fetched : Bool) (value : ℕ) → not (aligned && held) ≡ false → held ≡ fetched → IsSome (cond (aligned && fetched) (Some value) None)
    some true true true value good same = search rules
    some true true false value good same = cc
    some true false fetched value good same = cc
    some false held fetched value good same = cc
