-- Memory with all dirty lines flushed.
use Rattle.std.proofs.Common.{◌≡◌, ℕ, ◌<◌, ◌≤◌, ◌||◌, Bool, true, false, List, [], ◌∷◌, map, cond, eqb, refl, sym, ap, ◌∙◌, ◌⊎◌, inl, inr}
use Rattle.std.proofs.lemmas.Bool.{false≢true, true≢false, cases_eq, cases_lt, cond-true, cond-false, or_parts, eq-eqb, ne_eqb}
use Rattle.std.proofs.Math.Path.{fun_ext}
use Rattle.conda_base.specs.declared.Line.{Line}
use Rattle.conda_base.specs.declared.Mesi.{Mesi}
use Rattle.conda_base.specs.declared.Mesi.TheVariants.{M, E, S}
use Rattle.line_memory.specs.Tags.{Tag, is_modified, cleaned_state, cleaned_at, cleaned_line, modified}
use Rattle.line_memory.specs.Backing.{BackingView, HasSameNumbers, IsBacking, flushed}
use Rattle.conda_base.specs.LineLists.{names}
use Rattle.chip_laws.proofs.TagFacts.{dirty_none, NoM}
use Rattle.portion_ctl.specs.Walks.{all_flushed}
use Rattle.line_memory.specs.Access.{after_lock, cleaned_tag}
use Rattle.line_memory.specs.Backing.{dirty_in, shape_of}

-- ---- numbers and the view stay

pub flushes-numbers : (b : BackingView) (lines : List Line) → HasSameNumbers b (all_flushed b lines)
flushes-numbers b [] = record { line_bytes = refl; base = refl; holders = refl; sets = refl; ways = refl; size = refl }
flushes-numbers b (l ∷ lines) =
    let n = flushes-numbers (flushed b l) lines in
    record { line_bytes = n.line_bytes; base = n.base; holders = n.holders; sets = n.sets; ways = n.ways; size = n.size }

pub flushes-view : (b : BackingView) (lines : List Line) → (all_flushed b lines).view ≡ b.view
flushes-view b [] = refl
flushes-view b (l ∷ lines) = flushes-view (flushed b l) lines

-- ---- tags

abbrev all_cleaned : List Line → List Tag → List Tag
all_cleaned [] ts = ts
all_cleaned (l ∷ lines) ts = all_cleaned lines (cleaned_line l ts)

abbrev tag_cleaned : List Line → Tag → Tag
tag_cleaned [] t = t
tag_cleaned (l ∷ lines) t = tag_cleaned lines (cleaned_at l t)

flushes-tags : (b : BackingView) (lines : List Line) (k s : ℕ) → (all_flushed b lines).tags k s ≡ all_cleaned lines (b.tags k s)
flushes-tags b [] k s = refl
flushes-tags b (l ∷ lines) k s = flushes-tags (flushed b l) lines k s

cleaned-map : (lines : List Line) (ts : List Tag) → all_cleaned lines ts ≡ map (tag_cleaned lines) ts
cleaned-map [] [] = refl
cleaned-map [] (t ∷ ts) = ap (λ xs. t ∷ xs) (cleaned-map [] ts)
cleaned-map (l ∷ lines) ts = cleaned-map lines (cleaned_line l ts) ∙ twice ts
  where
    twice : (xs : List Tag) → map (tag_cleaned lines) (cleaned_line l xs) ≡ map (tag_cleaned (l ∷ lines)) xs
    twice [] = refl
    twice (x ∷ xs) = ap (λ rest. tag_cleaned lines (cleaned_at l x) ∷ rest) (twice xs)

stays-clean : (lines : List Line) (k : Line) (s : Mesi) → is_modified s ≡ false → tag_cleaned lines (k, s) ≡ (k, s)
stays-clean [] k s e = refl
stays-clean (l ∷ lines) k s e = ap (tag_cleaned lines) (same (eqb k.0 l.0) s e) ∙ stays-clean lines k s e
  where
    same : (b : Bool) (s : Mesi) → is_modified s ≡ false → ◌≡◌ {A = Tag} (cond b (k, cleaned_state s) (k, s)) (k, s)
    same true M e = cc
    same true E e = refl
    same true S e = refl
    same false s e = refl

made-clean : (lines : List Line) (k : Line) → names lines k ≡ true → tag_cleaned lines (k, M) ≡ (k, E)
made-clean [] k there = absurd (false≢true there)
made-clean (l ∷ lines) k there = go (cases_eq k.0 l.0) (made-clean lines k)
  where
    later : (b : Bool) → b ≡ false → (b || names lines k) ≡ true → names lines k ≡ true
    later true e h = absurd (true≢false e)
    later false e h = h

    go : ((k.0 ≡ l.0) ⊎ (k.0 ≡ l.0 → ⊥)) → (names lines k ≡ true → tag_cleaned lines (k, M) ≡ (k, E)) → tag_cleaned lines (cleaned_at l (k, M)) ≡ (k, E)
    go (inl same) ih =
        ap (tag_cleaned lines) (cond-true {A = Tag} (eqb k.0 l.0) (k, E) (k, M) (eq-eqb k.0 l.0 same)) ∙ stays-clean lines k E refl
    go (inr ne) ih =
        ap (tag_cleaned lines) (cond-false {A = Tag} (eqb k.0 l.0) (k, E) (k, M) (ne_eqb k.0 l.0 ne))
        ∙ ih (later (eqb l.0 k.0) (ne_eqb l.0 k.0 (λ e. ne (sym e))) there)

-- each M of a list is among these lines
abbrev CoversM : List Line → List Tag → Type 0
CoversM lines ts = (l : Line) → names lines l ≡ false → NoM l ts

list-cleaned : (lines : List Line) (ts : List Tag) → CoversM lines ts → map (tag_cleaned lines) ts ≡ map cleaned_tag ts
list-cleaned lines [] covers = refl
list-cleaned lines (t ∷ ts) covers = both (one t.1 refl) (list-cleaned lines ts (λ l out. tail l (covers l out)))
  where
    both : {x y : Tag} {xs ys : List Tag} → x ≡ y → xs ≡ ys → (x ∷ xs) ≡ (y ∷ ys)
    both e f = cc

    tail : (l : Line) → NoM l (t ∷ ts) → NoM l ts
    tail l none = go (is_modified t.1) none
      where
        go : (b : Bool) → names (cond b (t.0 ∷ modified ts) (modified ts)) l ≡ false → names (modified ts) l ≡ false
        go true h = (or_parts (eqb t.0.0 l.0) (names (modified ts) l) h).1
        go false h = h

    named : t.1 ≡ M → names lines t.0 ≡ true
    named m = known (names lines t.0) refl
      where
        known : (b : Bool) → names lines t.0 ≡ b → b ≡ true
        known true e = refl
        known false e = absurd (false≢true (sym (front (covers t.0 e)) ∙ self))
          where
            front : NoM t.0 (t ∷ ts) → eqb t.0.0 t.0.0 ≡ false
            front none = (or_parts (eqb t.0.0 t.0.0) (names (modified ts) t.0) (ap (λ s. names (cond (is_modified s) (t.0 ∷ modified ts) (modified ts)) t.0) (sym m) ∙ none)).0

            self : eqb t.0.0 t.0.0 ≡ true
            self = eq-eqb t.0.0 t.0.0 refl

    one : (s : Mesi) → t.1 ≡ s → tag_cleaned lines t ≡ cleaned_tag t
    one M e = ap (λ x. tag_cleaned lines (t.0, x)) e ∙ made-clean lines t.0 (named e) ∙ ap (λ x. (t.0, cleaned_state x)) (sym e)
    one E e = ap (λ x. tag_cleaned lines (t.0, x)) e ∙ stays-clean lines t.0 E refl ∙ ap (λ x. (t.0, cleaned_state x)) (sym e)
    one S e = ap (λ x. tag_cleaned lines (t.0, x)) e ∙ stays-clean lines t.0 S refl ∙ ap (λ x. (t.0, cleaned_state x)) (sym e)

covers-all : (b : BackingView) → IsBacking b → (k s : ℕ) → CoversM (dirty_in b) (b.tags k s)
covers-all b is k s l out = go (cases_lt k b.holders) (cases_lt s b.sets)
  where
    nothing : b.tags k s ≡ [] → NoM l (b.tags k s)
    nothing e = ap (λ ts. names (modified ts) l) e

    go : (k < b.holders) ⊎ (b.holders ≤ k) → (s < b.sets) ⊎ (b.sets ≤ s) → NoM l (b.tags k s)
    go (inl u) (inl v) = dirty_none (shape_of b) b.tags l k s out u v
    go (inr u) v = nothing (is.outside k s (inl u))
    go (inl u) (inr v) = nothing (is.outside k s (inr v))

-- with all dirty lines flushed, each M is E
pub flushes-lock : (b : BackingView) → IsBacking b → (all_flushed b (dirty_in b)).tags ≡ after_lock b.tags
flushes-lock b is = fun_ext (λ k. fun_ext (λ s.
    flushes-tags b (dirty_in b) k s ∙ cleaned-map (dirty_in b) (b.tags k s) ∙ list-cleaned (dirty_in b) (b.tags k s) (covers-all b is k s)))
