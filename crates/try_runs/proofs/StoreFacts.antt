-- Stores of a try: which bytes they cover, and which lines.
use Rattle.std.proofs.Common.{◌≡◌, ℕ, zero, suc, ◌+◌, ◌/◌, ◌%◌, ◌<◌, ◌≤◌, Bool, true, false, ◌||◌, cond, eqb, List, [], ◌∷◌, ◌++◌, map, refl, ap, ◌∙◌, arith, ◌⊎◌, inl, inr}
use Rattle.std.proofs.lemmas.Bool.{cases_eq, and_parts, and_from}
use Rattle.conda_base.specs.declared.Line.{Line}
use Rattle.conda_base.specs.LineLists.{line_at, names, with_new, with_all_new}
use Rattle.offload_calls.specs.Stores.{bytes_from, stored_addresses}
use Rattle.try_runs.specs.Tries.{is_stored, is_covered, stored_lines}
use Rattle.conda_base.proofs.LineListLemmas.{names-itself}
use Rattle.try_runs.proofs.LineFacts.{AreDistinct, AreDistinct-with_all_new}

pub is_stored-append : (ws vs : List (ℕ × ℕ)) (a : ℕ) → is_stored (ws ++ vs) a ≡ (is_stored ws a || is_stored vs a)
is_stored-append [] vs a = refl
is_stored-append (w ∷ ws) vs a = go (eqb w.0 a) (is_stored-append ws vs a)
  where
    go : (b : Bool) → is_stored (ws ++ vs) a ≡ (is_stored ws a || is_stored vs a) → (b || is_stored (ws ++ vs) a) ≡ ((b || is_stored ws a) || is_stored vs a)
    go true ih = refl
    go false ih = ih

-- all bytes of a span were stored
pub are_stored_at : (ws : List (ℕ × ℕ)) (a n x : ℕ) → is_covered ws a n ≡ true → a ≤ x → x < a + n → is_stored ws x ≡ true
are_stored_at ws a zero x h l u = absurd (omega arith)
are_stored_at ws a (suc n) x h l u = go (cases_eq x a) (and_parts _ _ h) (are_stored_at ws (suc a) n x)
  where
    go : ((x ≡ a) ⊎ (x ≡ a → ⊥)) → (is_stored ws a ≡ true) × (is_covered ws (suc a) n ≡ true)
        → (is_covered ws (suc a) n ≡ true → suc a ≤ x → x < suc a + n → is_stored ws x ≡ true) → is_stored ws x ≡ true
    go (inl e) p ih = rw e p.0
    go (inr ne) p ih = ih p.1 (omega arith) (omega arith)

pub are_stored_from : (ws : List (ℕ × ℕ)) (a n : ℕ) → ((x : ℕ) → a ≤ x → x < a + n → is_stored ws x ≡ true) → is_covered ws a n ≡ true
are_stored_from ws a zero h = refl
are_stored_from ws a (suc n) h =
    and_from _ _ (h a (omega arith) (omega arith)) (are_stored_from ws (suc a) n (λ x l u. h x (omega arith) (omega arith)))

-- ---- lines of stores

-- these lines, and behind them those of the stores in the order of the first store
abbrev pub lines_then : ℕ → List Line → List (ℕ × ℕ) → List Line
lines_then line_bytes lines stores =
    with_all_new lines (map (line_at line_bytes) (stored_addresses stores))

pub stored_lines-distinct : (n : ℕ) (stores : List (ℕ × ℕ)) → AreDistinct (stored_lines n stores)
stored_lines-distinct n stores = AreDistinct-with_all_new [] (map (line_at n) (stored_addresses stores)) tt

pub lines_then-append : (n : ℕ) (lines : List Line) (ws vs : List (ℕ × ℕ)) → lines_then n lines (ws ++ vs) ≡ lines_then n (lines_then n lines ws) vs
lines_then-append n lines [] vs = refl
lines_then-append n lines (w ∷ ws) vs = lines_then-append n (with_new lines (line_at n w.0)) ws vs

-- bytes of a line that is there already
lines_then-there : (n : ℕ) (lines : List Line) (l : Line) (addr size value : ℕ) → names lines l ≡ true
    → ((x : ℕ) → addr ≤ x → x < addr + size → line_at n x ≡ l) → lines_then n lines (bytes_from addr size value) ≡ lines
lines_then-there n lines l addr zero value there one = refl
lines_then-there n lines l addr (suc size) value there one =
    let first : line_at n addr ≡ l = one addr (omega arith) (omega arith) in
    let same : with_new lines (line_at n addr) ≡ lines = ap (λ k. cond (names lines k) lines (lines ++ k ∷ [])) first ∙ ap (λ b. cond b lines (lines ++ l ∷ [])) there in
    ap (λ ls. lines_then n ls (bytes_from (suc addr) size (value / 256))) same
    ∙ lines_then-there n lines l (suc addr) size (value / 256) there (λ x low high. one x (omega arith) (omega arith))

-- the lines of stores, with a number stored into one line
pub stored_lines-bytes : (n : ℕ) (ws : List (ℕ × ℕ)) (l : Line) (addr size value : ℕ) → 0 < size
    → ((x : ℕ) → addr ≤ x → x < addr + size → line_at n x ≡ l)
    → stored_lines n (ws ++ bytes_from addr size value) ≡ with_new (stored_lines n ws) l
stored_lines-bytes n ws l addr zero value some one = absurd (omega arith)
stored_lines-bytes n ws l addr (suc size) value some one =
    let first : line_at n addr ≡ l = one addr (omega arith) (omega arith) in
    lines_then-append n [] ws (bytes_from addr (suc size) value)
    ∙ ap (λ k. lines_then n (with_new (stored_lines n ws) k) (bytes_from (suc addr) size (value / 256))) first
    ∙ lines_then-there n (with_new (stored_lines n ws) l) l (suc addr) size (value / 256) (names-itself (stored_lines n ws) l)
    (λ x low high. one x (omega arith) (omega arith))
