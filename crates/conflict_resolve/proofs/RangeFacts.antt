-- A portion stores to lines of its memory alone.
use Rattle.std.proofs.Common.{◌≡◌, ◌≤◌, ◌<◌, ◌+◌, ◌⊎◌, ℕ, true, eqb, List, [], ◌∷◌, ◌++◌, length, map, refl, sym, ap, subst, ◌∙◌, inl, inr}
use Rattle.std.specs.Prelude.{All}
use Rattle.std.proofs.lemmas.Bool.{false≢true, eqb-true, eq-eqb, or_cases, or_left, or_right, cond_both}
use Rattle.std.proofs.lemmas.List.Elements.{All-nil, All-cons, All-head, All-tail, All-append}
use Rattle.conda_base.specs.declared.Line.{Line}
use Rattle.conda_base.proofs.LineLemmas.{line_in_memory}
use Rattle.line_memory.specs.Backing.{IsInRange}
use Rattle.offload_calls.specs.Stores.{Inside, is_listed, stored_addresses}
use Rattle.conda_base.specs.LineLists.{line_at, names, with_new, with_all_new}
use Rattle.try_runs.specs.Tries.{Try, stored_lines}
use Rattle.try_runs.specs.Fills.{portion_run}
use Rattle.try_runs.proofs.TryFacts.{try_run-inside}
use Rattle.conflict_resolve.specs.InRange.{StoresInRange}

all-new : (P : Line → Type 0) (n : ℕ) (lines : List Line) (addrs : List ℕ) → ((a : ℕ) → is_listed addrs a ≡ true → P (line_at n a)) → All P lines
    → All P (with_all_new lines (map (line_at n) addrs))
all-new P n lines [] here all = all
all-new P n lines (a ∷ addrs) here all =
    all-new P n (with_new lines (line_at n a)) addrs (λ x h. here x (or_right (eqb a x) (is_listed addrs x) h))
    (cond_both (names lines (line_at n a)) lines (lines ++ line_at n a ∷ []) (All P) (λ _. all)
    (λ _. All-append P lines (line_at n a ∷ []) all (All-cons P (line_at n a) [] (here a (or_left (eqb a a) (is_listed addrs a) (eq-eqb a a refl))) (All-nil P))))

address-of : (base room : ℕ) (stores : List (ℕ × ℕ)) (a : ℕ) → All (Inside base room) stores → is_listed (stored_addresses stores) a ≡ true → (base ≤ a) × (a < base + room)
address-of base room [] a all h = absurd (false≢true h)
address-of base room (store ∷ stores) a all h =
    go (or_cases (eqb store.0 a) (is_listed (stored_addresses stores) a) h) (λ r. address-of base room stores a (All-tail (Inside base room) store stores all) r)
  where
    go : (eqb store.0 a ≡ true) ⊎ (is_listed (stored_addresses stores) a ≡ true) → (is_listed (stored_addresses stores) a ≡ true → (base ≤ a) × (a < base + room))
        → (base ≤ a) × (a < base + room)
    go (inl e) later = subst (λ x. (base ≤ x) × (x < base + room)) (eqb-true store.0 a e) (All-head (Inside base room) store stores all)
    go (inr r) later = later r

pub stores_in_range : StoresInRange
stores_in_range code b o p is backing fits stands =
    let t : Try = portion_run code o.limits.line_bytes p in
    let inside : All (Inside code.base (length code.bytes)) t.stored = try_run-inside code o.limits.line_bytes p.regs p.fills p.acts is in
    let there : All (Inside b.base (length b.view)) t.stored =
    subst (λ m. All (Inside b.base m) t.stored) fits.bytes (subst (λ x. All (Inside x (length code.bytes)) t.stored) fits.base inside) in
    let lines : stored_lines o.cache.line_bytes t.stored ≡ stored_lines b.line_bytes t.stored =
    ap (λ k. stored_lines k t.stored) (stands.holds.sizes.lines ∙ sym fits.lines) in
    let all : All (IsInRange b) (stored_lines b.line_bytes t.stored) =
    all-new (IsInRange b) b.line_bytes [] (stored_addresses t.stored)
    (λ a h.
    let at = address-of b.base (length b.view) t.stored a there h in
    line_in_memory b.base (length b.view) b.line_bytes a backing.memory.size backing.memory.whole_base backing.memory.whole_bytes at.0 at.1)
    (All-nil (IsInRange b)) in
    subst (All (IsInRange b)) (sym (stands.holds.lines.order ∙ lines)) all
