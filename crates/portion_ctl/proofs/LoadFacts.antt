-- What a load finds, and the fill that it may need.
use Rattle.std.proofs.Common.{◌≡◌, ℕ, zero, suc, ◌+◌, ◌-◌, ◌*◌, ◌%◌, ◌<◌, ◌≤◌, Bool, true, false, ◌||◌, cond, eqb, List, [], ◌∷◌, ◌++◌, length, get_or, take, replicate, refl, sym, ap, subst, ◌∙◌, arith, ◌⊎◌, inl, inr, Some}
use Rattle.std.specs.Prelude.{slice_index, is_some}
use Rattle.std.proofs.lemmas.List.{length-append, length-take-le, length-replicate, get_or-take}
use Rattle.std.proofs.lemmas.Bool.{eqb-true, eq-eqb, cases_Bool, or_right, or_left}
use Rattle.conda_base.specs.declared.Line.{Line}
use Rattle.conda_base.specs.Lines.{IsAccessSize, line_offset}
use Rattle.conda_base.specs.Bytes.{value_at}
use Rattle.conda_base.specs.Marks.{is_marked}
use Rattle.conda_base.proofs.LineLemmas.{line_by_number, line_split, line_number_of_place, line_offset_of_place, access_in_line, line_size_bounds}
use Rattle.conda_base.proofs.MarkLemmas.{get_or-mixed}
use Rattle.write_masks.specs.declared.Masked.{Masked}
use Rattle.offload_calls.specs.Stores.{latest, number_at}
use Rattle.set_assoc.specs.Entries.{lookup}
use Rattle.nda_cache.specs.Tried.{Tried, IsTried, IsLine, known_of, filled_from}
use Rattle.conda_base.specs.Bytes.{handed_out}
use Rattle.line_memory.specs.Backing.{BackingView, copy_of}
use Rattle.conda_base.specs.LineLists.{line_at, names}
use Rattle.try_runs.specs.Tries.{is_covered, is_stored, byte_seen, stored_lines}
use Rattle.try_runs.specs.Fills.{Fills, byte_of, fills_with}
use Rattle.conda_base.proofs.LineListLemmas.{names-push, or_false, same_line-swap}
use Rattle.try_runs.proofs.CachedFacts.{names-cached, one_of, set_size, set_size-read}
use Rattle.try_runs.proofs.StoreFacts.{are_stored_at, are_stored_from, stored_lines-distinct}
use Rattle.offload_calls.proofs.StoreLemmas.{latest-elsewhere, latest_stored}
use Rattle.portion_ctl.specs.Stands.{HoldsLine, HoldsLines, address_in, lines_near}
use Rattle.portion_ctl.specs.Looks.{IsCovered, line_known, with_fill}
use Rattle.portion_ctl.proofs.ByteFacts.{value_at-reader}
use Rattle.portion_ctl.proofs.CacheFacts.{count-put, known_of-other, known_of-same, there-put}

-- ---- where an access lies

-- an aligned access to a line of a cache
pub record Lies (n addr size : ℕ) : Type 0 where
  pub room : line_offset addr n + size ≤ n
  pub small : n ≤ 128
  pub at : (line_at n addr).0 * n + line_offset addr n ≡ addr

pub lies : (cache : Tried) (addr size : ℕ) → IsTried cache → IsAccessSize size → addr % size ≡ 0 → Lies cache.line_bytes addr size
lies cache addr size is access aligned =
    let bounds = line_size_bounds cache.line_bytes is.size in
    record {
      room = access_in_line addr size cache.line_bytes is.size access aligned;
      small = bounds.1;
      at = line_split addr cache.line_bytes;
    }

-- the byte that a try sees at a place of a line
pub seen-in : (n : ℕ) (fills : Fills) (stores : List (ℕ × ℕ)) (l : Line) (k : ℕ) → k < n
    → byte_seen (byte_of n fills) stores (address_in n l k) ≡ latest stores (address_in n l k) (slice_index (fills l) k)
seen-in n fills stores l k within =
    let line : line_at n (address_in n l k) ≡ l = line_by_number (line_at n (address_in n l k)) l (line_number_of_place l.0 n k within) in
    let place : line_offset (address_in n l k) n ≡ k = line_offset_of_place l.0 n k within in
    ap (λ x. latest stores (address_in n l k) (slice_index (fills x) (line_offset (address_in n l k) n))) line
    ∙ ap (λ i. latest stores (address_in n l k) (slice_index (fills l) i)) place

-- ---- what a load finds

pub covered-stored : (cache : Tried) (stores : List (ℕ × ℕ)) (reads : List Line) (fills : Fills) (addr size : ℕ)
    → HoldsLines cache stores reads fills → Lies cache.line_bytes addr size → IsCovered cache addr size → is_covered stores addr size ≡ true
covered-stored cache stores reads fills addr size holds lie covers =
    let n : ℕ = cache.line_bytes in
    let l : Line = line_at n addr in
    let at = lie.at in
    let room = lie.room in
    are_stored_from stores addr size
    (λ x low high.
    let k : ℕ = x - addr + line_offset addr n in
    let there : address_in n l k ≡ x = omega arith in
    let inside : k < n = omega arith in
    sym (ap (is_stored stores) there) ∙ sym ((holds.lines l).marks k inside) ∙ covers k (omega arith) (omega arith))

pub stored-covered : (cache : Tried) (stores : List (ℕ × ℕ)) (reads : List Line) (fills : Fills) (addr size : ℕ)
    → HoldsLines cache stores reads fills → Lies cache.line_bytes addr size → is_covered stores addr size ≡ true → IsCovered cache addr size
stored-covered cache stores reads fills addr size holds lie all k low high =
    let n : ℕ = cache.line_bytes in
    let l : Line = line_at n addr in
    let at = lie.at in
    let room = lie.room in
    let inside : k < n = omega arith in
    (holds.lines l).marks k inside ∙ are_stored_at stores addr size (address_in n l k) all (omega arith) (omega arith)

-- the value of bytes that are known
pub value-seen : (cache : Tried) (stores : List (ℕ × ℕ)) (reads : List Line) (fills : Fills) (addr size : ℕ)
    → HoldsLines cache stores reads fills → length (line_known cache addr).bytes ≡ 128 → Lies cache.line_bytes addr size
    → (names reads (line_at cache.line_bytes addr) || is_covered stores addr size) ≡ true
    → value_at (line_known cache addr).bytes (line_offset addr cache.line_bytes) size ≡ number_at (byte_seen (byte_of cache.line_bytes fills) stores) addr size
value-seen cache stores reads fills addr size holds long lie known =
    let n : ℕ = cache.line_bytes in
    let l : Line = line_at n addr in
    let at = lie.at in
    let room = lie.room in
    let small = lie.small in
    value_at-reader (line_known cache addr).bytes (byte_seen (byte_of n fills) stores) (l.0 * n) (line_offset addr n) size (omega arith)
    (λ k low high.
    let inside : k < n = omega arith in
    (holds.lines l).bytes k inside (here k low high (cases_Bool (names reads l))) ∙ sym (seen-in n fills stores l k inside))
    ∙ ap (λ a. number_at (byte_seen (byte_of n fills) stores) a size) at
  where
    here : (k : ℕ) → line_offset addr cache.line_bytes ≤ k → k < line_offset addr cache.line_bytes + size
        → (names reads (line_at cache.line_bytes addr) ≡ true) ⊎ (names reads (line_at cache.line_bytes addr) ≡ false)
        → (names reads (line_at cache.line_bytes addr) || is_stored stores (address_in cache.line_bytes (line_at cache.line_bytes addr) k)) ≡ true
    here k low high (inl read) = or_left _ _ read
    here k low high (inr unread) =
        let at = lie.at in
        let all : is_covered stores addr size ≡ true = sym (ap (λ b. b || is_covered stores addr size) unread) ∙ known in
        or_right _ _ (are_stored_at stores addr size (address_in cache.line_bytes (line_at cache.line_bytes addr) k) all (omega arith) (omega arith))

-- ---- a fill

get_or-zeros : (m k : ℕ) → get_or {A = ℕ} (replicate m 0) k 0 ≡ 0
get_or-zeros zero k = refl
get_or-zeros (suc m) zero = refl
get_or-zeros (suc m) (suc k) = get_or-zeros m k

get_or-padded : (xs : List ℕ) (m k : ℕ) → get_or (xs ++ replicate m 0) k 0 ≡ get_or xs k 0
get_or-padded [] m k = get_or-zeros m k
get_or-padded (x ∷ xs) m zero = refl
get_or-padded (x ∷ xs) m (suc k) = get_or-padded xs m k

-- the bytes of a line that was filled
get_or-filled : (n : ℕ) (masked : Masked) (copy : List ℕ) (k : ℕ) → n ≤ 128 → length masked.bytes ≡ 128 → k < n
    → get_or (filled_from n masked (handed_out copy)).bytes k 0 ≡ cond (is_marked masked.mask k) (get_or masked.bytes k 0) (get_or copy k 0)
get_or-filled n masked copy k small long within =
    let pad = length-append {A = ℕ} copy (replicate (128 - length copy) 0) in
    let zeros = length-replicate {A = ℕ} (128 - length copy) 0 in
    let front : length (take n (handed_out copy)) ≡ n = length-take-le n (handed_out copy) (omega arith) in
    let rest = length-replicate {A = ℕ} (128 - n) 0 in
    let all = length-append {A = ℕ} (take n (handed_out copy)) (replicate (128 - n) 0) in
    let same : length (take n (handed_out copy) ++ replicate (128 - n) 0) ≡ length masked.bytes = omega arith in
    let byte : get_or (take n (handed_out copy) ++ replicate (128 - n) 0) k 0 ≡ get_or copy k 0 =
    get_or-padded (take n (handed_out copy)) (128 - n) k ∙ get_or-take n (handed_out copy) k 0 within ∙ get_or-padded copy (128 - length copy) k in
    get_or-mixed masked.mask masked.bytes (take n (handed_out copy) ++ replicate (128 - n) 0) k same
    ∙ ap (λ b. cond (is_marked masked.mask k) (get_or masked.bytes k 0) b) byte

-- a line that is filled
HoldsLine-filled : (n : ℕ) (stores : List (ℕ × ℕ)) (fill copy : List ℕ) (l : Line) (masked : Masked) → n ≤ 128 → IsLine n masked
    → HoldsLine n stores false fill l masked → HoldsLine n stores true copy l (filled_from n masked (handed_out copy))
HoldsLine-filled n stores fill copy l masked small is holds = record {
  filled = refl;
  marks = holds.marks;
  bytes = λ k within known. go k within (is_stored stores (address_in n l k)) refl;
}
  where
    go : (k : ℕ) → k < n → (b : Bool) → is_stored stores (address_in n l k) ≡ b
        → get_or (filled_from n masked (handed_out copy)).bytes k 0 ≡ latest stores (address_in n l k) (get_or copy k 0)
    go k within true e =
        let mark : is_marked masked.mask k ≡ true = holds.marks k within ∙ e in
        get_or-filled n masked copy k small is.room within
        ∙ ap (λ b. cond b (get_or masked.bytes k 0) (get_or copy k 0)) mark
        ∙ holds.bytes k within e
        ∙ latest_stored stores (address_in n l k) (slice_index fill k) (get_or copy k 0) e
    go k within false e =
        let mark : is_marked masked.mask k ≡ false = holds.marks k within ∙ e in
        get_or-filled n masked copy k small is.room within
        ∙ ap (λ b. cond b (get_or masked.bytes k 0) (get_or copy k 0)) mark
        ∙ sym (latest-elsewhere stores (address_in n l k) (get_or copy k 0) e)

pub HoldsLine-same : (n : ℕ) (stores : List (ℕ × ℕ)) (r s : Bool) (fill copy : List ℕ) (l : Line) (old new : Masked)
    → r ≡ s → fill ≡ copy → old ≡ new → HoldsLine n stores r fill l old → HoldsLine n stores s copy l new
HoldsLine-same n stores r s fill copy l old new read fills masked holds =
    subst (λ m. HoldsLine n stores s copy l m) masked
    (subst (λ xs. HoldsLine n stores s xs l old) fills (subst (λ b. HoldsLine n stores b fill l old) read holds))

or_swap : (a b c : Bool) → (a || (b || c)) ≡ ((b || a) || c)
or_swap true true c = refl
or_swap true false c = refl
or_swap false true c = refl
or_swap false false c = refl

-- the cache with a line filled
pub HoldsLines-filled : (memory : BackingView) (cache : Tried) (stores : List (ℕ × ℕ)) (reads : List Line) (fills : Fills) (l : Line)
    → IsTried cache → names reads l ≡ false → HoldsLines cache stores reads fills
    → HoldsLines (with_fill memory cache l) stores (reads ++ l ∷ []) (fills_with fills (copy_of memory) (Some l))
HoldsLines-filled memory cache stores reads fills l is out holds = record {
  lines = λ k. line k (eqb l.0 k.0) refl;
  there = λ k.
      there-put l k (filled_from cache.line_bytes (known_of cache l) (handed_out (copy_of memory l))) cache.lines
      ∙ ap (λ b. eqb l.0 k.0 || b) (holds.there k ∙ names-cached reads (stored_lines cache.line_bytes stores) k)
      ∙ or_swap (eqb l.0 k.0) (names reads k) (names (stored_lines cache.line_bytes stores) k)
      ∙ ap (λ b. b || names (stored_lines cache.line_bytes stores) k) (sym (names-push reads l k))
      ∙ sym (names-cached (reads ++ l ∷ []) (stored_lines cache.line_bytes stores) k);
  counts = λ k.
      let put = count-put cache.sets l k (filled_from cache.line_bytes (known_of cache l) (handed_out (copy_of memory l))) cache.lines in
      let read = set_size-read cache.sets reads (stored_lines cache.line_bytes stores) l k out (stored_lines-distinct cache.line_bytes stores) in
      let was = holds.counts k in
      put ∙ ap (λ m. m + cond (is_some (lookup l cache.lines)) 0 (one_of cache.sets k l)) was
      ∙ ap (λ b. set_size cache.sets k (lines_near cache.line_bytes stores reads) + cond b 0 (one_of cache.sets k l)) (holds.there l) ∙ sym read;
  order = holds.order;
}
  where
    filled : HoldsLine cache.line_bytes stores true (copy_of memory l) l (filled_from cache.line_bytes (known_of cache l) (handed_out (copy_of memory l)))
    filled =
        HoldsLine-filled cache.line_bytes stores (fills l) (copy_of memory l) l (known_of cache l) (line_size_bounds cache.line_bytes is.size).1 (is.whole l)
        (subst (λ b. HoldsLine cache.line_bytes stores b (fills l) l (known_of cache l)) out (holds.lines l))

    at_line : HoldsLine cache.line_bytes stores (names (reads ++ l ∷ []) l) (fills_with fills (copy_of memory) (Some l) l) l (known_of (with_fill memory cache l) l)
    at_line =
        HoldsLine-same cache.line_bytes stores true (names (reads ++ l ∷ []) l) (copy_of memory l) (fills_with fills (copy_of memory) (Some l) l) l _ _
        (sym (names-push reads l l ∙ or_right (names reads l) (eqb l.0 l.0) (eq-eqb l.0 l.0 refl)))
        (sym (ap (λ b. cond b (copy_of memory l) (fills l)) (eq-eqb l.0 l.0 refl)))
        (sym (known_of-same cache l (filled_from cache.line_bytes (known_of cache l) (handed_out (copy_of memory l)))))
        filled

    line : (k : Line) (b : Bool) → eqb l.0 k.0 ≡ b
        → HoldsLine cache.line_bytes stores (names (reads ++ l ∷ []) k) (fills_with fills (copy_of memory) (Some l) k) k (known_of (with_fill memory cache l) k)
    line k true e =
        let same : l ≡ k = line_by_number l k (eqb-true l.0 k.0 e) in
        let P : Line → Type 0 = λ x. HoldsLine cache.line_bytes stores (names (reads ++ l ∷ []) x) (fills_with fills (copy_of memory) (Some l) x) x (known_of (with_fill memory cache l) x) in
        subst P same at_line
    line k false e =
        HoldsLine-same cache.line_bytes stores (names reads k) (names (reads ++ l ∷ []) k) (fills k) (fills_with fills (copy_of memory) (Some l) k) k _ _
        (sym (names-push reads l k ∙ ap (λ b. names reads k || b) e ∙ or_false (names reads k)))
        (sym (ap (λ b. cond b (copy_of memory k) (fills k)) (same_line-swap l.0 k.0 e)))
        (sym (known_of-other cache l k (filled_from cache.line_bytes (known_of cache l) (handed_out (copy_of memory l))) e))
        (holds.lines k)
