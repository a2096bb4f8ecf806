-- What a commit leaves, by the try that its portion stands for.
use Rattle.std.proofs.Common.{◌≡◌, ◌<◌, ◌+◌, ◌⊎◌, ℕ, true, eqb, List, [], ◌∷◌, ◌++◌, length, map, refl, sym, ap, subst, ◌∙◌, arith, inl, inr}
use Rattle.std.specs.Prelude.{All, ◌≤◌}
use Rattle.std.proofs.lemmas.Bool.{false≢true, eq-eqb, or_cases, or_left, or_right}
use Rattle.std.proofs.lemmas.List.Elements.{All-nil, All-cons, All-head, All-tail}
use Rattle.conda_base.specs.declared.Line.{Line}
use Rattle.conda_base.specs.Lines.{line_number}
use Rattle.conda_base.specs.LineLists.{line_at, names}
use Rattle.conda_base.specs.Bytes.{bytes_of_line}
use Rattle.conda_base.proofs.LineLemmas.{line_split, offset_below, line_bytes_in_memory}
use Rattle.line_memory.specs.Access.{after_commit}
use Rattle.line_memory.specs.Memory.{IsMemory}
use Rattle.line_memory.specs.Backing.{HasSameNumbers, BackingView, IsBacking, IsInRange, shape_of, view_of, merged}
use Rattle.line_memory.specs.Notes.{all_noted, commit_notes}
use Rattle.nda_cache.specs.Tried.{Tried, IsTried, known_of}
use Rattle.offload_calls.specs.Stores.{Inside, overlay, is_listed, stored_addresses}
use Rattle.offload_calls.specs.State.{Setup, State, updated}
use Rattle.offload_calls.proofs.StoreLemmas.{length-overlay, latest_stored}
use Rattle.try_runs.specs.Fills.{Fills, try_run}
use Rattle.try_runs.specs.Tries.{Try, writes, stored_lines, is_stored}
use Rattle.try_runs.specs.Serial.{try_in, after_try, line_bytes_of}
use Rattle.conda_base.proofs.LineListLemmas.{line_eq, names-with_all_new}
use Rattle.try_runs.proofs.Serial.{serial}
use Rattle.portion_ctl.specs.declared.portion.Kept.{Kept}
use Rattle.portion_ctl.specs.Stands.{address_in, HoldsLines, Holds, StandsFor}
use Rattle.portion_ctl.specs.States.{IsKeptOf}
use Rattle.portion_ctl.specs.Views.{ReadyView, EndedView}
use Rattle.conflict_resolve.specs.Merges.{Stored, stored_in, all_merged, all_merge_notes}
use Rattle.conflict_resolve.specs.Commits.{Change, Commits, IsShownBy, state_kept, IsUnbroken}
use Rattle.conflict_resolve.proofs.MergeFacts.{lines_in, IsStored, AreStored, IsCommitted, names-map, rooms, merges_commit}
use Rattle.conflict_resolve.proofs.CopyFacts.{copies_are}

-- ---- what the cache holds is what the stores left

lines-of-entries : (cache : Tried) (ls : List Line) → lines_in (map (λ (l : Line). (l, known_of cache l)) ls) ≡ ls
lines-of-entries cache [] = refl
lines-of-entries cache (l ∷ ls) = ap (λ ks. l ∷ ks) (lines-of-entries cache ls)

entry-stored : (cache : Tried) (stores : List (ℕ × ℕ)) (reads : List Line) (fills : Fills) (l : Line) → IsTried cache → HoldsLines cache stores reads fills
    → IsStored cache.line_bytes stores (l, known_of cache l)
entry-stored cache stores reads fills l is holds =
    let line = holds.lines l in
    record {
      room = (is.whole l).room;
      marks = λ k below. line.marks k below;
      bytes = λ k below on.
          let stored : is_stored stores (address_in cache.line_bytes l k) ≡ true = sym (line.marks k below) ∙ on in
          line.bytes k below (or_right (names reads l) (is_stored stores (address_in cache.line_bytes l k)) stored)
          ∙ latest_stored stores (address_in cache.line_bytes l k) _ 0 stored;
    }

entries-stored : (cache : Tried) (stores : List (ℕ × ℕ)) (reads : List Line) (fills : Fills) (ls : List Line) → IsTried cache → HoldsLines cache stores reads fills
    → All (IsStored cache.line_bytes stores) (map (λ (l : Line). (l, known_of cache l)) ls)
entries-stored cache stores reads fills [] is holds = All-nil (IsStored cache.line_bytes stores)
entries-stored cache stores reads fills (l ∷ ls) is holds =
    All-cons (IsStored cache.line_bytes stores) (l, known_of cache l) (map (λ (l : Line). (l, known_of cache l)) ls)
    (entry-stored cache stores reads fills l is holds) (entries-stored cache stores reads fills ls is holds)

entries-in-range : (b : BackingView) (cache : Tried) (ls : List Line) → All (IsInRange b) ls
    → All (λ (e : Stored). IsInRange b e.0) (map (λ (l : Line). (l, known_of cache l)) ls)
entries-in-range b cache [] all = All-nil (λ (e : Stored). IsInRange b e.0)
entries-in-range b cache (l ∷ ls) all =
    All-cons (λ (e : Stored). IsInRange b e.0) (l, known_of cache l) (map (λ (l : Line). (l, known_of cache l)) ls)
    (All-head (IsInRange b) l ls all) (entries-in-range b cache ls (All-tail (IsInRange b) l ls all))

-- ---- stores to lines in range lie in memory

named-in-range : (b : BackingView) (ls : List Line) (l : Line) → names ls l ≡ true → All (IsInRange b) ls → IsInRange b l
named-in-range b [] l h all = absurd (false≢true h)
named-in-range b (k ∷ ls) l h all = go (or_cases (eqb k.0 l.0) (names ls l) h) (λ r. named-in-range b ls l r (All-tail (IsInRange b) k ls all))
  where
    go : (eqb k.0 l.0 ≡ true) ⊎ (names ls l ≡ true) → (names ls l ≡ true → IsInRange b l) → IsInRange b l
    go (inl e) later = subst (IsInRange b) (line_eq k l e) (All-head (IsInRange b) k ls all)
    go (inr r) later = later r

address-inside : (b : BackingView) (a : ℕ) → IsMemory b.line_bytes b.base (length b.view) → IsInRange b (line_at b.line_bytes a)
    → (b.base ≤ a) × (a < b.base + length b.view)
address-inside b a is range =
    let span = line_bytes_in_memory b.base (length b.view) b.line_bytes (line_number a b.line_bytes) is.size is.whole_base is.whole_bytes range in
    let low = span.0 in
    let high = span.1 in
    let split = line_split a b.line_bytes in
    let small = offset_below a b.line_bytes is.size in
    (omega arith, omega arith)

stores-inside : (b : BackingView) (stores : List (ℕ × ℕ)) → IsMemory b.line_bytes b.base (length b.view)
    → ((a : ℕ) → is_listed (stored_addresses stores) a ≡ true → IsInRange b (line_at b.line_bytes a)) → All (Inside b.base (length b.view)) stores
stores-inside b [] is range = All-nil (Inside b.base (length b.view))
stores-inside b (store ∷ stores) is range =
    All-cons (Inside b.base (length b.view)) store stores
    (address-inside b store.0 is (range store.0 (or_left (eqb store.0 store.0) (is_listed (stored_addresses stores) store.0) (eq-eqb store.0 store.0 refl))))
    (stores-inside b stores is (λ a h. range a (or_right (eqb store.0 a) (is_listed (stored_addresses stores) a) h)))

stored-named : (n : ℕ) (stores : List (ℕ × ℕ)) (a : ℕ) → is_listed (stored_addresses stores) a ≡ true → names (stored_lines n stores) (line_at n a) ≡ true
stored-named n stores a h = names-with_all_new [] (map (line_at n) (stored_addresses stores)) (line_at n a) ∙ names-map n (stored_addresses stores) a h

-- ---- the merges of what the cache holds

are-stored : (b : BackingView) (cache : Tried) (stores : List (ℕ × ℕ)) (reads : List Line) (fills : Fills) → IsBacking b → IsTried cache
    → HoldsLines cache stores reads fills → b.line_bytes ≡ cache.line_bytes → All (IsInRange b) cache.stored → AreStored b stores (stored_in cache)
are-stored b cache stores reads fills is tried holds same range =
    let lines : cache.stored ≡ stored_lines b.line_bytes stores = holds.order ∙ ap (λ n. stored_lines n stores) (sym same) in
    record {
      memory = is.memory;
      inside = stores-inside b stores is.memory
          (λ a h. named-in-range b cache.stored (line_at b.line_bytes a) (ap (λ ls. names ls (line_at b.line_bytes a)) lines ∙ stored-named b.line_bytes stores a h) range);
      lines = lines-of-entries cache cache.stored ∙ lines;
      stored = subst (λ n. All (IsStored n stores) (stored_in cache)) (sym same) (entries-stored cache stores reads fills cache.stored tried holds);
      in_range = entries-in-range b cache cache.stored range;
    }

-- ---- a commit

-- merges change no number that one merge doesn't
number-all : (number : BackingView → ℕ) → ((m : BackingView) (e : Stored) → number (merged m e.0 e.1.bytes e.1.mask) ≡ number m)
    → (m : BackingView) (entries : List Stored) → number (all_merged m entries) ≡ number m
number-all number same m [] = refl
number-all number same m (e ∷ entries) = number-all number same (merged m e.0 e.1.bytes e.1.mask) entries ∙ same m e

numbers-all : (b : BackingView) (entries : List Stored) (stores : List (ℕ × ℕ)) → (all_merged b entries).view ≡ overlay b.base b.view stores
    → HasSameNumbers b (all_merged b entries)
numbers-all b entries stores view =
    record {
      line_bytes = number-all (λ (m : BackingView). m.line_bytes) (λ m e. refl) b entries;
      base = number-all (λ (m : BackingView). m.base) (λ m e. refl) b entries;
      holders = number-all (λ (m : BackingView). m.holders) (λ m e. refl) b entries;
      sets = number-all (λ (m : BackingView). m.sets) (λ m e. refl) b entries;
      ways = number-all (λ (m : BackingView). m.ways) (λ m e. refl) b entries;
      size = ap length view ∙ length-overlay b.base b.view stores;
    }

-- what `commit` has of its portion
pub record Committed (m : Change) (c : EndedView) (kept : Kept) : Type 0 where
  pub backing : IsBacking m.old
  pub still_backing : IsBacking m.new
  pub tried : IsTried c.try.cache
  pub lines : m.old.line_bytes ≡ c.try.limits.line_bytes
  pub in_range : All (IsInRange m.old) c.try.cache.stored
  pub merged : m.new ≡ all_merged m.old (stored_in c.try.cache)
  pub noted : m.after ≡ all_noted m.before (all_merge_notes m.old c.try.core (stored_in c.try.cache))
  pub kept_is : IsKeptOf c kept

pub commits : (m : Change) (c : EndedView) (t : Try) (fills : Fills) (kept : Kept) → Committed m c kept → Holds c.try t fills → Commits m c t kept
commits m c t fills kept is holds =
    let b : BackingView = m.old in
    let same : b.line_bytes ≡ c.try.cache.line_bytes = is.lines ∙ sym holds.sizes.lines in
    let are : AreStored b t.stored (stored_in c.try.cache) = are-stored b c.try.cache t.stored t.reads fills is.backing is.tried holds.lines same is.in_range in
    let done : IsCommitted b (all_merged b (stored_in c.try.cache)) c.try.core t.stored (stored_in c.try.cache) = merges_commit b c.try.core t.stored (stored_in c.try.cache) are in
    let tags : m.new.tags ≡ after_commit b.tags (writes b.line_bytes t) =
    ap (λ (v : BackingView). v.tags) is.merged ∙ done.tags ∙ ap (after_commit b.tags) are.lines in
    record {
      numbers = subst (HasSameNumbers b) (sym is.merged) (numbers-all b (stored_in c.try.cache) t.stored done.view);
      view = ap (λ (v : BackingView). v.view) is.merged ∙ done.view;
      tags = tags;
      copies = λ l range.
          copies_are b m.new (stored_in c.try.cache) (writes b.line_bytes t) l is.merged are.lines tags is.backing is.still_backing
          (rooms b.line_bytes t.stored (stored_in c.try.cache) are.stored) are.in_range range;
      notes = is.noted ∙ ap (all_noted m.before) (done.notes ∙ ap (commit_notes (shape_of b) b.tags c.try.core) are.lines);
      regs = ap (λ (x : ReadyView). x.regs) is.kept_is.ready ∙ holds.regs;
      status = is.kept_is.status ∙ holds.status;
      out = is.kept_is.out ∙ holds.held;
    }

-- ---- the Serial law at a commit

line-shown : (b : BackingView) (s : Setup) (f : State) (j : ℕ) (l : Line) → IsShownBy b s f j → line_bytes_of s f l ≡ view_of b l
line-shown b s f j l shown =
    ap (λ x. bytes_of_line x s.line_bytes f.memory l.0) shown.base
    ∙ ap (λ x. bytes_of_line b.base x f.memory l.0) shown.lines
    ∙ ap (λ x. bytes_of_line b.base b.line_bytes x l.0) shown.memory

-- the state that the try leaves is that of what the core keeps
pub same-state : (m : Change) (c : EndedView) (t : Try) (s : Setup) (f : State) (j : ℕ) (kept : Kept)
    → IsShownBy m.old s f j → Commits m c t kept → after_try s f j t ≡ state_kept f j kept m.new
same-state m c t s f j kept shown done =
    let memory : overlay s.code.base f.memory t.stored ≡ m.new.view =
    ap (λ x. overlay x f.memory t.stored) shown.base ∙ ap (λ x. overlay m.old.base x t.stored) shown.memory ∙ sym done.view in
    λ i. record {
      memory = memory i;
      harts = f.harts;
      cores = updated f.cores j (record { regs = sym done.regs i; status = sym done.status i });
      output = f.output ++ sym done.out i;
    }

pub atomic : (m : Change) (c : EndedView) (s : Setup) (f : State) (j : ℕ) (fills : Fills) (n : ℕ) (kept : Kept)
    → Committed m c kept → StandsFor s.code c.try (record { regs = (f.cores j).regs; fills = fills; acts = n }) → IsUnbroken m.old s f j fills n kept m.new
atomic m c s f j fills n kept is stands shown fresh =
    let t : Try = try_in s f j fills n in
    let same : c.try.limits.line_bytes ≡ s.line_bytes = sym (shown.lines ∙ is.lines) in
    let held : Holds c.try t fills = subst (λ k. Holds c.try (try_run s.code k (f.cores j).regs fills n) fills) same stands.holds in
    let law =
    serial s f j n fills shown.setup (ap length shown.memory ∙ sym shown.bytes) shown.runs
    (λ l h. fresh l h ∙ sym (line-shown m.old s f j l shown)) in
    law.state ∙ same-state m c t s f j kept shown (commits m c t fills kept is held)
