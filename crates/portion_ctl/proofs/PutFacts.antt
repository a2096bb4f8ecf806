-- A store of a try.
use Rattle.std.proofs.Common.{◌≡◌, ◌≢◌, ℕ, ◌+◌, ◌-◌, ◌*◌, ◌%◌, ◌<◌, ◌≤◌, Bool, true, false, not, ◌||◌, cond, eqb, List, [], ◌∷◌, ◌++◌, get_or, refl, sym, ap, subst, ◌∙◌, arith, ⊎_elim, ◌⊎◌, inl, inr}
use Rattle.std.specs.Prelude.{slice_index, is_some}
use Rattle.std.specs.Int.{bit_at}
use Rattle.std.proofs.lemmas.Nat.Bits.{bit_at-zero, bit_at-lt, same_from_bits}
use Rattle.std.proofs.lemmas.Bool.{false≢true, eqb-true, eqb-false, ne_eqb, eq-eqb, cases_Bool, cases_lt, or_right, or_left, or_cases, both_ways}
use Rattle.std.proofs.lemmas.Bool.Decides.{nat_tests}
use Rattle.conda_base.specs.declared.Line.{Line}
use Rattle.conda_base.specs.Lines.{IsAccessSize, line_number, line_offset}
use Rattle.conda_base.specs.Marks.{is_marked}
use Rattle.conda_base.proofs.LineLemmas.{line_by_number, line_split, line_number_of_place, line_number-add, line_size_bounds, access_size_cases}
use Rattle.std.proofs.Math.Nat.{mod-lt}
use Rattle.write_masks.specs.declared.Masked.{Masked}
use Rattle.write_masks.specs.Marks.{is_within}
use Rattle.offload_calls.specs.Stores.{bytes_from, latest}
use Rattle.set_assoc.specs.Entries.{lookup}
use Rattle.nda_cache.specs.Tried.{Tried, IsTried, IsLine, Stores, WritesLine, known_of, put_line, stored_after}
use Rattle.conda_base.specs.LineLists.{line_at, names, with_new}
use Rattle.try_runs.specs.Tries.{is_stored, stored_lines}
use Rattle.try_runs.specs.Fills.{Fills}
use Rattle.try_runs.specs.Ends.{cached}
use Rattle.conda_base.proofs.LineListLemmas.{names-with_new, or_false}
use Rattle.try_runs.proofs.CachedFacts.{names-cached, one_of, set_size, set_size-written}
use Rattle.try_runs.proofs.StoreFacts.{is_stored-append, lines_then, stored_lines-bytes}
use Rattle.offload_calls.proofs.StoreLemmas.{latest-append, latest-elsewhere, latest_stored}
use Rattle.portion_ctl.specs.Stands.{HoldsLine, HoldsLines, address_in, lines_near}
use Rattle.portion_ctl.proofs.LoadFacts.{Lies}
use Rattle.portion_ctl.proofs.ByteFacts.{get_or-stored, is_stored-bytes}
use Rattle.portion_ctl.proofs.CacheFacts.{count-put, known_of-other, known_of-same, there-put, with_known}

-- ---- which lines were stored to

-- a line of stores has a stored byte, unless it was there before
stored_byte : (n : ℕ) (lines : List Line) (ws : List (ℕ × ℕ)) (l : Line) → names (lines_then n lines ws) l ≡ true
    → (names lines l ≡ true) ⊎ ((x : ℕ) × ((is_stored ws x ≡ true) × ((line_at n x).0 ≡ l.0)))
stored_byte n lines [] l h = inl h
stored_byte n lines (w ∷ ws) l h = go (stored_byte n (with_new lines (line_at n w.0)) ws l h)
  where
    go : (names (with_new lines (line_at n w.0)) l ≡ true) ⊎ ((x : ℕ) × ((is_stored ws x ≡ true) × ((line_at n x).0 ≡ l.0)))
        → (names lines l ≡ true) ⊎ ((x : ℕ) × ((is_stored (w ∷ ws) x ≡ true) × ((line_at n x).0 ≡ l.0)))
    go (inl there) =
        ⊎_elim (λ before. inl before) (λ here. inr (w.0, (or_left _ _ (eq-eqb w.0 w.0 refl), eqb-true _ _ here)))
        (or_cases _ _ (sym (names-with_new lines (line_at n w.0) l) ∙ there))
    go (inr byte) = inr (byte.0, (or_right _ _ byte.1.0, byte.1.1))

has-then : (n : ℕ) (lines : List Line) (ws : List (ℕ × ℕ)) (l : Line) → names lines l ≡ true → names (lines_then n lines ws) l ≡ true
has-then n lines [] l h = h
has-then n lines (w ∷ ws) l h =
    has-then n (with_new lines (line_at n w.0)) ws l (names-with_new lines (line_at n w.0) l ∙ or_left _ _ h)

byte_stored : (n : ℕ) (lines : List Line) (ws : List (ℕ × ℕ)) (l : Line) (x : ℕ) → is_stored ws x ≡ true → (line_at n x).0 ≡ l.0
    → names (lines_then n lines ws) l ≡ true
byte_stored n lines [] l x h same = absurd (false≢true h)
byte_stored n lines (w ∷ ws) l x h same = go (or_cases _ _ h) (byte_stored n (with_new lines (line_at n w.0)) ws l x)
  where
    go : (eqb w.0 x ≡ true) ⊎ (is_stored ws x ≡ true)
        → (is_stored ws x ≡ true → (line_at n x).0 ≡ l.0 → names (lines_then n (with_new lines (line_at n w.0)) ws) l ≡ true)
        → names (lines_then n (with_new lines (line_at n w.0)) ws) l ≡ true
    go (inl here) ih =
        let line : (line_at n w.0).0 ≡ l.0 = ap (λ a. line_number a n) (eqb-true w.0 x here) ∙ same in
        has-then n (with_new lines (line_at n w.0)) ws l (names-with_new lines (line_at n w.0) l ∙ or_right _ _ (eq-eqb _ _ line))
    go (inr later) ih = ih later same

-- a line has no mark exactly where it wasn't stored to
pub unmarked-unwritten : (n : ℕ) (stores : List (ℕ × ℕ)) (r : Bool) (fill : List ℕ) (l : Line) (masked : Masked) → 0 < n → IsLine n masked
    → HoldsLine n stores r fill l masked → eqb masked.mask 0 ≡ not (names (stored_lines n stores) l)
unmarked-unwritten n stores r fill l masked some is holds = go (names (stored_lines n stores) l) refl
  where
    no_mark : names (stored_lines n stores) l ≡ false → (k : ℕ) → is_marked masked.mask k ≡ false
    no_mark out k = ⊎_elim inside (λ past. is.unmarked k past) (cases_lt k n)
      where
        inside : k < n → is_marked masked.mask k ≡ false
        inside within =
            holds.marks k within
            ∙ ⊎_elim
            (λ (on : is_stored stores (address_in n l k) ≡ true).
            let has : names (stored_lines n stores) l ≡ true = byte_stored n [] stores l (address_in n l k) on (line_number_of_place l.0 n k within) in
            absurd (both_ways _ out has))
            (λ off. off) (cases_Bool (is_stored stores (address_in n l k)))

    go : (b : Bool) → names (stored_lines n stores) l ≡ b → eqb masked.mask 0 ≡ not b
    go true e =
        ⊎_elim
        (λ none. absurd (false≢true none))
        (λ (byte : (x : ℕ) × ((is_stored stores x ≡ true) × ((line_at n x).0 ≡ l.0))).
        let k : ℕ = byte.0 % n in
        let within : k < n = mod-lt byte.0 some in
        let at : address_in n l k ≡ byte.0 = ap (λ i. i * n + k) (sym byte.1.1) ∙ line_split byte.0 n in
        let mark : is_marked masked.mask k ≡ true = holds.marks k within ∙ ap (is_stored stores) at ∙ byte.1.0 in
        ne_eqb masked.mask 0
        (λ zero_mask.
        let none : is_marked masked.mask k ≡ false = ap (λ m. is_marked m k) zero_mask ∙ ap (λ bit. eqb bit 1) (bit_at-zero k) in
        both_ways _ none mark))
        (stored_byte n [] stores l e)
    go false e =
        eq-eqb masked.mask 0
        (same_from_bits masked.mask 0
        (λ k.
        let off : bit_at masked.mask k ≢ 1 = eqb-false (bit_at masked.mask k) 1 (no_mark e k) in
        let small = bit_at-lt masked.mask k in
        let none = bit_at-zero k in
        omega arith))

-- ---- a store

-- the bytes of an access lie in its line
pub in_line : (n addr size : ℕ) → Lies n addr size → (x : ℕ) → addr ≤ x → x < addr + size → line_at n x ≡ line_at n addr
in_line n addr size lie x low high =
    let room = lie.room in
    let there : addr + (x - addr) ≡ x = omega arith in
    line_by_number _ _ (ap (λ a. line_number a n) (sym there) ∙ line_number-add addr (x - addr) n (omega arith))

-- a line that is stored into
HoldsLine-put : (n : ℕ) (stores : List (ℕ × ℕ)) (r : Bool) (fill : List ℕ) (addr size value : ℕ) (old new : Masked)
    → Lies n addr size → IsAccessSize size → IsLine n old → Stores old new (line_offset addr n) size value
    → HoldsLine n stores r fill (line_at n addr) old → HoldsLine n (stores ++ bytes_from addr size value) r fill (line_at n addr) new
HoldsLine-put n stores r fill addr size value old new lie access is put holds = record {
  filled = put.filled ∙ holds.filled;
  marks = λ k within.
      put.marks k
      ∙ ap (λ b. b || is_within (line_offset addr n) size k) (holds.marks k within)
      ∙ ap (λ b. is_stored stores (address_in n (line_at n addr) k) || b) (sym (here k))
      ∙ sym (is_stored-append stores (bytes_from addr size value) (address_in n (line_at n addr) k));
  bytes = λ k within known. go k within (is_stored (bytes_from addr size value) (address_in n (line_at n addr) k)) refl known;
}
  where
    here : (k : ℕ) → is_stored (bytes_from addr size value) (address_in n (line_at n addr) k) ≡ is_within (line_offset addr n) size k
    here k =
        let at = lie.at in
        is_stored-bytes addr size value (address_in n (line_at n addr) k) ∙ grind (arith, nat_tests)

    byte : (k : ℕ) → get_or new.bytes k 0 ≡ latest (bytes_from addr size value) (address_in n (line_at n addr) k) (get_or old.bytes k 0)
    byte k =
        let room = lie.room in
        let small = lie.small in
        let long = is.room in
        ap (λ xs. get_or xs k 0) put.bytes
        ∙ get_or-stored old.bytes ((line_at n addr).0 * n) (line_offset addr n) size value k access (omega arith)
        ∙ ap (λ a. latest (bytes_from a size value) (address_in n (line_at n addr) k) (get_or old.bytes k 0)) lie.at

    go : (k : ℕ) → k < n → (b : Bool) → is_stored (bytes_from addr size value) (address_in n (line_at n addr) k) ≡ b
        → (r || is_stored (stores ++ bytes_from addr size value) (address_in n (line_at n addr) k)) ≡ true
        → get_or new.bytes k 0 ≡ latest (stores ++ bytes_from addr size value) (address_in n (line_at n addr) k) (slice_index fill k)
    go k within true e known =
        byte k
        ∙ latest_stored (bytes_from addr size value) (address_in n (line_at n addr) k) _ (latest stores (address_in n (line_at n addr) k) (slice_index fill k)) e
        ∙ sym (latest-append stores (bytes_from addr size value) (address_in n (line_at n addr) k) (slice_index fill k))
    go k within false e known =
        let before : (r || is_stored stores (address_in n (line_at n addr) k)) ≡ true =
        ap (λ b. r || b) (sym (is_stored-append stores (bytes_from addr size value) (address_in n (line_at n addr) k) ∙ ap (λ b. is_stored stores (address_in n (line_at n addr) k) || b) e ∙ or_false _)) ∙ known in
        byte k
        ∙ ap (latest (bytes_from addr size value) (address_in n (line_at n addr) k)) (holds.bytes k within before)
        ∙ sym (latest-append stores (bytes_from addr size value) (address_in n (line_at n addr) k) (slice_index fill k))

-- a line that isn't stored into
HoldsLine-other : (n : ℕ) (stores : List (ℕ × ℕ)) (r : Bool) (fill : List ℕ) (addr size value : ℕ) (l : Line) (masked : Masked)
    → Lies n addr size → eqb (line_at n addr).0 l.0 ≡ false → HoldsLine n stores r fill l masked → HoldsLine n (stores ++ bytes_from addr size value) r fill l masked
HoldsLine-other n stores r fill addr size value l masked lie apart holds = record {
  filled = holds.filled;
  marks = λ k within. holds.marks k within ∙ same k within;
  bytes = λ k within known.
      holds.bytes k within (ap (λ b. r || b) (same k within) ∙ known)
      ∙ sym (latest-elsewhere (bytes_from addr size value) (address_in n l k) _ (out k within))
      ∙ sym (latest-append stores (bytes_from addr size value) (address_in n l k) (slice_index fill k));
}
  where
    out : (k : ℕ) → k < n → is_stored (bytes_from addr size value) (address_in n l k) ≡ false
    out k within =
        ⊎_elim
        (λ (on : is_stored (bytes_from addr size value) (address_in n l k) ≡ true).
        let both : is_within addr size (address_in n l k) ≡ true = sym (is_stored-bytes addr size value (address_in n l k)) ∙ on in
        let low : addr ≤ address_in n l k = grind (arith, nat_tests) in
        let high : address_in n l k < addr + size = grind (arith, nat_tests) in
        let line : (line_at n (address_in n l k)).0 ≡ (line_at n addr).0 = ap (λ (x : Line). x.0) (in_line n addr size lie (address_in n l k) low high) in
        let same : (line_at n addr).0 ≡ l.0 = sym line ∙ line_number_of_place l.0 n k within in
        absurd (both_ways _ apart (eq-eqb _ _ same)))
        (λ off. off) (cases_Bool (is_stored (bytes_from addr size value) (address_in n l k)))

    same : (k : ℕ) → k < n → is_stored stores (address_in n l k) ≡ is_stored (stores ++ bytes_from addr size value) (address_in n l k)
    same k within =
        sym (is_stored-append stores (bytes_from addr size value) (address_in n l k) ∙ ap (λ b. is_stored stores (address_in n l k) || b) (out k within) ∙ or_false _)

turned : {A : Type 0} (b : Bool) (x y : A) → cond (not b) x y ≡ cond b y x
turned true x y = refl
turned false x y = refl

or_move : (a b c : Bool) → (a || (b || c)) ≡ (b || (c || a))
or_move true true c = refl
or_move true false true = refl
or_move true false false = refl
or_move false true c = refl
or_move false false true = refl
or_move false false false = refl

-- the cache with a line stored into
put_into : (old : Tried) (masked : Masked) (stores : List (ℕ × ℕ)) (reads : List Line) (fills : Fills) (addr size value : ℕ) (l : Line)
    → l ≡ line_at old.line_bytes addr → IsTried old → Lies old.line_bytes addr size → IsAccessSize size → HoldsLines old stores reads fills
    → Stores (known_of old l) masked (line_offset addr old.line_bytes) size value
    → HoldsLines (record old { lines = put_line l masked old.lines; stored = stored_after old l }) (stores ++ bytes_from addr size value) reads fills
put_into old masked stores reads fills addr size value l at is lie access holds put = record {
  lines = λ k. line k (eqb l.0 k.0) refl;
  there = λ k.
      there-put l k masked old.lines
      ∙ ap (λ b. eqb l.0 k.0 || b) (holds.there k ∙ names-cached reads (stored_lines old.line_bytes stores) k)
      ∙ or_move (eqb l.0 k.0) (names reads k) (names (stored_lines old.line_bytes stores) k)
      ∙ ap (λ b. names reads k || b) (sym (names-with_new (stored_lines old.line_bytes stores) l k) ∙ ap (λ ls. names ls k) (sym written))
      ∙ sym (names-cached reads (stored_lines old.line_bytes (stores ++ bytes_from addr size value)) k);
  counts = λ k.
      count-put old.sets l k masked old.lines
      ∙ ap (λ m. m + cond (is_some (lookup l old.lines)) 0 (one_of old.sets k l)) (holds.counts k)
      ∙ ap (λ b. set_size old.sets k (lines_near old.line_bytes stores reads) + cond b 0 (one_of old.sets k l)) (holds.there l)
      ∙ sym (set_size-written old.sets reads (stored_lines old.line_bytes stores) l k)
      ∙ ap (λ ls. set_size old.sets k (cached reads ls)) (sym written);
  order =
      ap (λ b. cond b (old.stored ++ l ∷ []) old.stored)
      (unmarked-unwritten old.line_bytes stores (names reads l) (fills l) l (known_of old l) some (is.whole l) (holds.lines l))
      ∙ ap (λ ls. cond (not (names (stored_lines old.line_bytes stores) l)) (ls ++ l ∷ []) ls) holds.order
      ∙ turned (names (stored_lines old.line_bytes stores) l) (stored_lines old.line_bytes stores ++ l ∷ []) (stored_lines old.line_bytes stores)
      ∙ sym written;
}
  where
    some : 0 < old.line_bytes
    some = let bounds = line_size_bounds old.line_bytes is.size in omega arith

    written : stored_lines old.line_bytes (stores ++ bytes_from addr size value) ≡ with_new (stored_lines old.line_bytes stores) l
    written =
        let sizes = access_size_cases size access in
        stored_lines-bytes old.line_bytes stores l addr size value (grind arith)
        (λ x low high. in_line old.line_bytes addr size lie x low high ∙ sym at)

    at_line : HoldsLine old.line_bytes (stores ++ bytes_from addr size value) (names reads l) (fills l) l masked
    at_line =
        let P : Line → Type 0 = λ x.
        HoldsLine old.line_bytes stores (names reads l) (fills l) x (known_of old l) → HoldsLine old.line_bytes (stores ++ bytes_from addr size value) (names reads l) (fills l) x masked in
        subst P (sym at)
        (λ was. HoldsLine-put old.line_bytes stores (names reads l) (fills l) addr size value (known_of old l) masked lie access (is.whole l) put was)
        (holds.lines l)

    line : (k : Line) (b : Bool) → eqb l.0 k.0 ≡ b
        → HoldsLine old.line_bytes (stores ++ bytes_from addr size value) (names reads k) (fills k) k (known_of (with_known old l masked) k)
    line k true e =
        let same : l ≡ k = line_by_number l k (eqb-true l.0 k.0 e) in
        let P : Line → Type 0 = λ x. HoldsLine old.line_bytes (stores ++ bytes_from addr size value) (names reads x) (fills x) x (known_of (with_known old l masked) x) in
        subst P same
        (subst (λ m. HoldsLine old.line_bytes (stores ++ bytes_from addr size value) (names reads l) (fills l) l m) (sym (known_of-same old l masked)) at_line)
    line k false e =
        let apart : eqb (line_at old.line_bytes addr).0 k.0 ≡ false = ap (λ (x : Line). eqb x.0 k.0) (sym at) ∙ e in
        subst (λ m. HoldsLine old.line_bytes (stores ++ bytes_from addr size value) (names reads k) (fills k) k m) (sym (known_of-other old l k masked e))
        (HoldsLine-other old.line_bytes stores (names reads k) (fills k) addr size value k (known_of old k) lie apart (holds.lines k))

-- the cache with a store into it
pub HoldsLines-put : (old new : Tried) (stores : List (ℕ × ℕ)) (reads : List Line) (fills : Fills) (addr size value : ℕ)
    → IsTried old → Lies old.line_bytes addr size → IsAccessSize size → HoldsLines old stores reads fills
    → WritesLine old new (line_at old.line_bytes addr) (line_offset addr old.line_bytes) size value
    → HoldsLines new (stores ++ bytes_from addr size value) reads fills
HoldsLines-put old new stores reads fills addr size value is lie access holds put =
    subst (λ (t : Tried). HoldsLines t (stores ++ bytes_from addr size value) reads fills) (sym put.others)
    (put_into old (known_of new (line_at old.line_bytes addr)) stores reads fills addr size value (line_at old.line_bytes addr) refl is lie access holds put.line)
