-- Loads and stores of a try, and the causes that stand against them.
use Rattle.std.proofs.Common.{◌≡◌, ℕ, ◌<◌, ◌≤◌, Bool, true, false, not, ◌&&◌, ◌||◌, cond, eqb, List, [], ◌∷◌, ◌++◌, length, refl, sym, ap, subst, ◌∙◌, arith, ⊎_elim, inl, inr, Option, Some, None}
use Rattle.std.specs.Prelude.{is_some}
use Rattle.std.proofs.lemmas.Bool.{eq-eqb, ne_eqb, or_left, or_right, both_ways, false_from_ne_true, and_from, cases_lt}
use Rattle.conda_base.specs.declared.Line.{Line}
use Rattle.conda_base.specs.Lines.{IsAccessSize, line_offset}
use Rattle.conda_base.specs.Bytes.{value_at}
use Rattle.conda_base.proofs.LineLemmas.{access_size_cases}
use Rattle.conda_base.proofs.MarkLemmas.{length-mixed}
use Rattle.offload_calls.specs.Stores.{bytes_from, number_at}
use Rattle.set_assoc.specs.Entries.{lookup}
use Rattle.nda_cache.specs.Tried.{Tried, IsTried, HasRoom, known_of, set_count, filled_from}
use Rattle.conda_base.specs.Bytes.{handed_out}
use Rattle.line_memory.specs.Backing.{BackingView, copy_of}
use Rattle.nda_cache.specs.declared.cache.Look.{Look}
use Rattle.nda_cache.specs.declared.cache.Look.TheVariants.{Known, Missing, Full}
use Rattle.conda_base.specs.LineLists.{line_at, names, with_new}
use Rattle.try_runs.specs.Tries.{is_covered, outside_line, byte_seen, stored_lines, with_some_line}
use Rattle.try_runs.specs.Fills.{Fills, byte_of, corefill_notes, fills_with, new_line}
use Rattle.try_runs.specs.Ends.{is_set_full, is_sign_full}
use Rattle.conda_base.proofs.LineListLemmas.{names-itself}
use Rattle.try_runs.proofs.CachedFacts.{set_size}
use Rattle.try_runs.proofs.StoreFacts.{stored_lines-bytes}
use Rattle.bloom_sig.specs.Images.{IsSignatureOf}
use Rattle.bloom_sig.specs.Signatures.{Sets, inserted, is_full_for}
use Rattle.portion_ctl.specs.Stands.{HoldsLines, lines_near}
use Rattle.portion_ctl.specs.Looks.{LooksUp, TakesValue, end_of_load, line_known, take_notes, with_fill}
use Rattle.portion_ctl.proofs.LoadFacts.{HoldsLines-filled, Lies, covered-stored, stored-covered, value-seen}
use Rattle.portion_ctl.proofs.PutFacts.{in_line}
use Rattle.portion_ctl.proofs.SignatureFacts.{inserted-new, is_full_for-lines, listed_member}
use Rattle.portion_ctl.proofs.CacheFacts.{known_of-same}

-- ---- room

room-no_overflow : (cache : Tried) (stores : List (ℕ × ℕ)) (reads : List Line) (fills : Fills) (l : Line) → HoldsLines cache stores reads fills
    → HasRoom cache l → is_set_full cache.sets cache.ways (lines_near cache.line_bytes stores reads) (Some l) ≡ false
room-no_overflow cache stores reads fills l holds (inl there) =
    ap (λ b. not b && eqb (set_size cache.sets l (lines_near cache.line_bytes stores reads)) cache.ways) (sym (holds.there l) ∙ there)
room-no_overflow cache stores reads fills l holds (inr few) =
    let count = holds.counts l in
    let apart : eqb (set_size cache.sets l (lines_near cache.line_bytes stores reads)) cache.ways ≡ false = ne_eqb _ _ (λ same. absurd (omega arith)) in
    ap (λ b. not (names (lines_near cache.line_bytes stores reads) l) && b) apart ∙ and_no (not (names (lines_near cache.line_bytes stores reads) l))
  where
    and_no : (b : Bool) → (b && false) ≡ false
    and_no true = refl
    and_no false = refl

full-overflow : (cache : Tried) (stores : List (ℕ × ℕ)) (reads : List Line) (fills : Fills) (l : Line) → IsTried cache → HoldsLines cache stores reads fills
    → (HasRoom cache l → ⊥) → is_set_full cache.sets cache.ways (lines_near cache.line_bytes stores reads) (Some l) ≡ true
full-overflow cache stores reads fills l is holds full =
    let away : is_some (lookup l cache.lines) ≡ false = false_from_ne_true _ (λ there. full (inl there)) in
    let near : names (lines_near cache.line_bytes stores reads) l ≡ false = sym (holds.there l) ∙ away in
    let count = holds.counts l in
    let few = is.few l in
    let most : cache.ways ≤ set_count cache l = ⊎_elim (λ (less : set_count cache l < cache.ways). absurd (full (inr less))) (λ more. more) (cases_lt (set_count cache l) cache.ways) in
    and_from _ _ (ap not near) (eq-eqb _ _ (omega arith))

-- ---- what stands against a load

-- the first of two causes
abbrev pub or_else : Option ℕ → Option ℕ → Option ℕ
or_else None later = later
or_else (Some cause) later = Some cause

abbrev pub span_line : Tried → List (ℕ × ℕ) → ℕ → ℕ → Option Line
span_line cache stores addr size = outside_line cache.line_bytes stores (Some (record { addr = addr; size = size }))

-- a line that was read isn't new to the reads
known-no_overfill : (s : Sets) (limit : ℕ) (lines : List Line) (l : Line) → IsSignatureOf s lines → names lines l ≡ true → is_sign_full s.bits limit lines (Some l) ≡ false
known-no_overfill s limit lines l is there =
    sym (is_full_for-lines s s.bits limit lines l refl is) ∙ ap (λ b. not b && eqb s.fill limit) (listed_member s lines l is there)

pub load-cause : (cache : Tried) (s : Sets) (stores : List (ℕ × ℕ)) (reads : List Line) (fills : Fills) (addr size limit : ℕ) (look : Look) (later : Option ℕ)
    → IsTried cache → Lies cache.line_bytes addr size → HoldsLines cache stores reads fills → IsSignatureOf s reads → LooksUp cache addr size look
    → cond (is_set_full cache.sets cache.ways (lines_near cache.line_bytes stores reads) (Some (line_at cache.line_bytes addr))) (Some 4)
    (cond (is_sign_full s.bits limit reads (span_line cache stores addr size)) (Some 5) later)
    ≡ or_else (end_of_load look (is_full_for s (line_at cache.line_bytes addr) limit)) later
load-cause cache s stores reads fills addr size limit (Known value) later is lie holds sig looks =
    ap (λ b. cond b (Some 4) (cond (is_sign_full s.bits limit reads (span_line cache stores addr size)) (Some 5) later))
    (room-no_overflow cache stores reads fills (line_at cache.line_bytes addr) holds looks.1)
    ∙ ap (λ b. cond b (Some 5) later) (go (is_covered stores addr size) refl)
  where
    go : (b : Bool) → is_covered stores addr size ≡ b → is_sign_full s.bits limit reads (cond b None (Some (line_at cache.line_bytes addr))) ≡ false
    go true e = refl
    go false e =
        known-no_overfill s limit reads (line_at cache.line_bytes addr) sig
        (⊎_elim (λ filled. sym ((holds.lines (line_at cache.line_bytes addr)).filled) ∙ filled)
        (λ covers. absurd (both_ways _ e (covered-stored cache stores reads fills addr size holds lie covers))) looks.0)
load-cause cache s stores reads fills addr size limit Missing later is lie holds sig looks =
    ap (λ b. cond b (Some 4) (cond (is_sign_full s.bits limit reads (span_line cache stores addr size)) (Some 5) later))
    (room-no_overflow cache stores reads fills (line_at cache.line_bytes addr) holds looks.room)
    ∙ ap (λ o. cond (is_sign_full s.bits limit reads o) (Some 5) later) outside
    ∙ ap (λ b. cond b (Some 5) later) (sym (is_full_for-lines s s.bits limit reads (line_at cache.line_bytes addr) refl sig))
    ∙ chosen (is_full_for s (line_at cache.line_bytes addr) limit) later
  where
    outside : span_line cache stores addr size ≡ Some (line_at cache.line_bytes addr)
    outside =
        ap (λ b. cond b None (Some (line_at cache.line_bytes addr)))
        (false_from_ne_true _ (λ all. looks.uncovered (stored-covered cache stores reads fills addr size holds lie all)))

    chosen : (b : Bool) (later : Option ℕ) → cond b (Some 5) later ≡ or_else (cond b (Some 5) None) later
    chosen true later = refl
    chosen false later = refl
load-cause cache s stores reads fills addr size limit Full later is lie holds sig looks =
    ap (λ b. cond b (Some 4) (cond (is_sign_full s.bits limit reads (span_line cache stores addr size)) (Some 5) later))
    (full-overflow cache stores reads fills (line_at cache.line_bytes addr) is holds looks)

-- ---- what a load does

pub record LoadDone (memory : BackingView) (cache after_cache : Tried) (after_reads : Sets) (stores : List (ℕ × ℕ)) (reads : List Line) (fills : Fills) (addr size : ℕ) (look : Look) (value : ℕ) (outside : Option Line) : Type 0 where
  pub loads : value ≡ number_at (byte_seen (byte_of cache.line_bytes (fills_with fills (copy_of memory) (new_line reads outside))) stores) addr size
  pub lines : HoldsLines after_cache stores (with_some_line reads outside) (fills_with fills (copy_of memory) (new_line reads outside))
  pub read : IsSignatureOf after_reads (with_some_line reads outside)
  pub notes : (core : ℕ) → take_notes core (line_at cache.line_bytes addr) look ≡ corefill_notes core (new_line reads outside)

pub load-done : (memory : BackingView) (cache : Tried) (s : Sets) (stores : List (ℕ × ℕ)) (reads : List Line) (fills : Fills) (addr size : ℕ) (look : Look)
    (after_cache : Tried) (after_reads : Sets) (value : ℕ)
    → IsTried cache → Lies cache.line_bytes addr size → HoldsLines cache stores reads fills → IsSignatureOf s reads → LooksUp cache addr size look
    → TakesValue memory cache s (line_at cache.line_bytes addr) addr size look after_cache after_reads value
    → LoadDone memory cache after_cache after_reads stores reads fills addr size look value (span_line cache stores addr size)
load-done memory cache s stores reads fills addr size Full after_cache after_reads value is lie holds sig looks takes = absurd takes
load-done memory cache s stores reads fills addr size (Known known) after_cache after_reads value is lie holds sig looks takes =
    go (is_covered stores addr size) refl
  where
    known_value : (names reads (line_at cache.line_bytes addr) || is_covered stores addr size) ≡ true
        → value ≡ number_at (byte_seen (byte_of cache.line_bytes fills) stores) addr size
    known_value there = takes.2 ∙ looks.2 ∙ value-seen cache stores reads fills addr size holds (is.whole (line_at cache.line_bytes addr)).room lie there

    lines : HoldsLines after_cache stores reads fills
    lines = subst (λ (t : Tried). HoldsLines t stores reads fills) (sym takes.0) holds

    read : IsSignatureOf after_reads reads
    read = subst (λ (t : Sets). IsSignatureOf t reads) (sym takes.1) sig

    go : (b : Bool) → is_covered stores addr size ≡ b
        → LoadDone memory cache after_cache after_reads stores reads fills addr size (Known known) value (cond b None (Some (line_at cache.line_bytes addr)))
    go true e = record {
      loads = known_value (or_right _ _ e);
      lines = lines;
      read = read;
      notes = λ core. refl;
    }
    go false e = again (names reads (line_at cache.line_bytes addr)) refl
      where
        there : names reads (line_at cache.line_bytes addr) ≡ true
        there =
            ⊎_elim (λ filled. sym ((holds.lines (line_at cache.line_bytes addr)).filled) ∙ filled)
            (λ covers. absurd (both_ways _ e (covered-stored cache stores reads fills addr size holds lie covers))) looks.0

        again : (b : Bool) → names reads (line_at cache.line_bytes addr) ≡ b
            → LoadDone memory cache after_cache after_reads stores reads fills addr size (Known known) value (Some (line_at cache.line_bytes addr))
        again true h =
            let none : new_line reads (Some (line_at cache.line_bytes addr)) ≡ None = ap (λ b. cond b None (Some (line_at cache.line_bytes addr))) h in
            let same : with_new reads (line_at cache.line_bytes addr) ≡ reads = ap (λ b. cond b reads (reads ++ line_at cache.line_bytes addr ∷ [])) h in
            record {
              loads = known_value (or_left _ _ h) ∙ ap (λ o. number_at (byte_seen (byte_of cache.line_bytes (fills_with fills (copy_of memory) o)) stores) addr size) (sym none);
              lines = subst (λ ls. HoldsLines after_cache stores ls (fills_with fills (copy_of memory) (new_line reads (Some (line_at cache.line_bytes addr))))) (sym same)
                  (subst (λ o. HoldsLines after_cache stores reads (fills_with fills (copy_of memory) o)) (sym none) lines);
              read = subst (λ ls. IsSignatureOf after_reads ls) (sym same) read;
              notes = λ core. ap (corefill_notes core) (sym none);
            }
        again false h = absurd (both_ways _ h there)
load-done memory cache s stores reads fills addr size Missing after_cache after_reads value is lie holds sig looks takes =
    subst (λ o. LoadDone memory cache after_cache after_reads stores reads fills addr size Missing value o) (sym outside) done
  where
    outside : span_line cache stores addr size ≡ Some (line_at cache.line_bytes addr)
    outside =
        ap (λ b. cond b None (Some (line_at cache.line_bytes addr)))
        (false_from_ne_true _ (λ all. looks.uncovered (stored-covered cache stores reads fills addr size holds lie all)))

    away : names reads (line_at cache.line_bytes addr) ≡ false
    away = sym ((holds.lines (line_at cache.line_bytes addr)).filled) ∙ looks.unfilled

    some : new_line reads (Some (line_at cache.line_bytes addr)) ≡ Some (line_at cache.line_bytes addr)
    some = ap (λ b. cond b None (Some (line_at cache.line_bytes addr))) away

    pushed : with_new reads (line_at cache.line_bytes addr) ≡ reads ++ line_at cache.line_bytes addr ∷ []
    pushed = ap (λ b. cond b reads (reads ++ line_at cache.line_bytes addr ∷ [])) away

    filled : HoldsLines (with_fill memory cache (line_at cache.line_bytes addr)) stores (reads ++ line_at cache.line_bytes addr ∷ []) (fills_with fills (copy_of memory) (Some (line_at cache.line_bytes addr)))
    filled = HoldsLines-filled memory cache stores reads fills (line_at cache.line_bytes addr) is away holds

    long : length (line_known (with_fill memory cache (line_at cache.line_bytes addr)) addr).bytes ≡ 128
    long =
        ap (λ m. length m.bytes) (known_of-same cache (line_at cache.line_bytes addr) (filled_from cache.line_bytes (known_of cache (line_at cache.line_bytes addr)) (handed_out (copy_of memory (line_at cache.line_bytes addr)))))
        ∙ length-mixed (known_of cache (line_at cache.line_bytes addr)).mask (known_of cache (line_at cache.line_bytes addr)).bytes _
        ∙ (is.whole (line_at cache.line_bytes addr)).room

    listed : names (reads ++ line_at cache.line_bytes addr ∷ []) (line_at cache.line_bytes addr) ≡ true
    listed = ap (λ ls. names ls (line_at cache.line_bytes addr)) (sym pushed) ∙ names-itself reads (line_at cache.line_bytes addr)

    loads : value ≡ number_at (byte_seen (byte_of cache.line_bytes (fills_with fills (copy_of memory) (Some (line_at cache.line_bytes addr)))) stores) addr size
    loads =
        takes.2
        ∙ ap (λ (t : Tried). value_at (line_known t addr).bytes (line_offset addr t.line_bytes) size) takes.0
        ∙ value-seen (with_fill memory cache (line_at cache.line_bytes addr)) stores (reads ++ line_at cache.line_bytes addr ∷ []) (fills_with fills (copy_of memory) (Some (line_at cache.line_bytes addr))) addr size filled long lie (or_left _ _ listed)

    done : LoadDone memory cache after_cache after_reads stores reads fills addr size Missing value (Some (line_at cache.line_bytes addr))
    done = record {
      loads = loads ∙ ap (λ o. number_at (byte_seen (byte_of cache.line_bytes (fills_with fills (copy_of memory) o)) stores) addr size) (sym some);
      lines = subst (λ ls. HoldsLines after_cache stores ls (fills_with fills (copy_of memory) (new_line reads (Some (line_at cache.line_bytes addr))))) (sym pushed)
          (subst (λ o. HoldsLines after_cache stores (reads ++ line_at cache.line_bytes addr ∷ []) (fills_with fills (copy_of memory) o)) (sym some)
          (subst (λ (t : Tried). HoldsLines t stores (reads ++ line_at cache.line_bytes addr ∷ []) (fills_with fills (copy_of memory) (Some (line_at cache.line_bytes addr)))) (sym takes.0) filled));
      read = subst (λ (t : Sets). IsSignatureOf t (with_new reads (line_at cache.line_bytes addr))) (sym takes.1) (inserted-new s reads (line_at cache.line_bytes addr) sig);
      notes = λ core. ap (corefill_notes core) (sym some);
    }

-- ---- a store

-- the cause that stands against a store to a line that there is room for, where the line is new to a signature that
-- is full or not
abbrev pub end_of_store : Bool → Option ℕ
end_of_store is_full = cond is_full (Some 6) None

pub store-cause : (s : Sets) (bits limit : ℕ) (lines : List Line) (l : Line) → s.bits ≡ bits → IsSignatureOf s lines
    → cond (is_sign_full bits limit lines (Some l)) (Some 6) None ≡ end_of_store (is_full_for s l limit)
store-cause s bits limit lines l same is = ap (λ b. cond b (Some 6) None) (sym (is_full_for-lines s bits limit lines l same is))

pub room-cause : (cache : Tried) (stores : List (ℕ × ℕ)) (reads : List Line) (fills : Fills) (l : Line) (later : Option ℕ) → HoldsLines cache stores reads fills
    → HasRoom cache l → cond (is_set_full cache.sets cache.ways (lines_near cache.line_bytes stores reads) (Some l)) (Some 4) later ≡ later
room-cause cache stores reads fills l later holds room = ap (λ b. cond b (Some 4) later) (room-no_overflow cache stores reads fills l holds room)

pub full-cause : (cache : Tried) (stores : List (ℕ × ℕ)) (reads : List Line) (fills : Fills) (l : Line) (later : Option ℕ) → IsTried cache → HoldsLines cache stores reads fills
    → (HasRoom cache l → ⊥) → cond (is_set_full cache.sets cache.ways (lines_near cache.line_bytes stores reads) (Some l)) (Some 4) later ≡ Some 4
full-cause cache stores reads fills l later is holds full = ap (λ b. cond b (Some 4) later) (full-overflow cache stores reads fills l is holds full)

-- the signature of stored lines with a store
pub written-lines : (cache : Tried) (s : Sets) (stores : List (ℕ × ℕ)) (addr size value : ℕ) → IsAccessSize size → Lies cache.line_bytes addr size
    → IsSignatureOf s (stored_lines cache.line_bytes stores)
    → IsSignatureOf (inserted s (line_at cache.line_bytes addr)) (stored_lines cache.line_bytes (stores ++ bytes_from addr size value))
written-lines cache s stores addr size value access lie is =
    let sizes = access_size_cases size access in
    let lines : stored_lines cache.line_bytes (stores ++ bytes_from addr size value) ≡ with_new (stored_lines cache.line_bytes stores) (line_at cache.line_bytes addr) =
    stored_lines-bytes cache.line_bytes stores (line_at cache.line_bytes addr) addr size value (grind arith) (in_line cache.line_bytes addr size lie) in
    subst (λ ls. IsSignatureOf (inserted s (line_at cache.line_bytes addr)) ls) (sym lines) (inserted-new s (stored_lines cache.line_bytes stores) (line_at cache.line_bytes addr) is)
