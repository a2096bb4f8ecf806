-- Lists of tags stay within their ways, and a line stands in the list of its set.
use Rattle.std.proofs.Common.{◌≡◌, ◌≤◌, ℕ, Bool, false, List, ◌∷◌, length, refl, sym, ap, ◌∙◌, subst, arith, cond, eqb, not, Option, Some, None}
use Rattle.std.specs.List.{filter}
use Rattle.std.proofs.lemmas.Bool.{false≢true, cond_both, eqb-true, eq-eqb, false_from_ne_true}
use Rattle.conda_base.specs.declared.Line.{Line}
use Rattle.schedule_log.specs.declared.entry.Entry.{Entry}
use Rattle.schedule_log.specs.declared.entry.Entry.TheVariants.{Step, Waits, Idle, Held, Open, Lock, Spec, Commit, Back, Flush, Kern}
use Rattle.chip_laws.specs.Design.{Design, hart_shape}
use Rattle.chip_laws.specs.Rules.{World, writes_of, flush_line}
use Rattle.chip_laws.specs.Worlds.{tags_after, start_world}
use Rattle.conda_base.specs.declared.Mesi.{Mesi}
use Rattle.conda_base.specs.declared.Mesi.TheVariants.{M}
use Rattle.line_memory.specs.Tags.{Tag, Tags, without_line, cleaned_at, Shape, set_number, held_state}
use Rattle.conda_base.specs.LineLists.{names, same_line}
use Rattle.offload_calls.specs.LineUses.{LineUse}
use Rattle.conda_base.proofs.LineListLemmas.{line_eq}
use Rattle.chip_laws.specs.Notes.{hart_use}
use Rattle.std.proofs.Math.Nat.{min-le_left}
use Rattle.std.proofs.lemmas.List.{length-take, length-map}
use Rattle.std.proofs.lemmas.List.Sums.{count_by-le-length, length-filter}
use Rattle.chip_laws.proofs.OwnerFacts.{is_held, HaveOwners, Less, less_map, less_filter, front_others, without_less, beside_less, clean_line, clean_one_owner, clean_owner, took_owners, start_owners}
use Rattle.line_memory.specs.Access.{put_front, shared_at, loaded_state, list_beside_load, changed_set, after_load, after_store, cleaned_tag}
use Rattle.chip_laws.specs.Uses.{after_use, flush_after}

pub record TagsFit (c : Shape) (tags : Tags) : Type 0 where
  pub owners : HaveOwners c tags
  pub short : (k s : ℕ) → length (tags k s) ≤ c.ways
  pub placed : (k s : ℕ) (l : Line) → eqb s (set_number c l) ≡ false → is_held l (tags k s) ≡ false

le_of : {a b n : ℕ} → a ≡ b → b ≤ n → a ≤ n
le_of e h = omega arith

pub length-filter_le : (q : Tag → Bool) (ts : List Tag) → length (filter q ts) ≤ length ts
length-filter_le q ts = le_of (length-filter q ts) (count_by-le-length q ts)

le_both : {a b n : ℕ} → a ≤ b → b ≤ n → a ≤ n
le_both h k = omega arith

-- ---- how long lists are

-- what one set's edits do to how long a list is
short-set : (c : Shape) (tags : Tags) (h set : ℕ) (own other : List Tag → List Tag) → ((k s : ℕ) → length (tags k s) ≤ c.ways)
    → ((ts : List Tag) → length (own ts) ≤ c.ways) → ((ts : List Tag) → length (other ts) ≤ length ts)
    → (k s : ℕ) → length (changed_set h set own other tags k s) ≤ c.ways
short-set c tags h set own other short mine theirs k s =
    cond_both (eqb s set) _ (tags k s) (λ ts. length ts ≤ c.ways)
    (λ _. cond_both (eqb k h) _ _ (λ ts. length ts ≤ c.ways) (λ _. mine (tags k s)) (λ _. le_both (theirs (tags k s)) (short k s)))
    (λ _. short k s)

front-short : (ways : ℕ) (n : Line) (m : Mesi) (ts : List Tag) → length (put_front ways n m ts) ≤ ways
front-short ways n m ts = le_of (length-take ways ((n, m) ∷ without_line n ts)) (min-le_left ways (length ((n, m) ∷ without_line n ts)))

beside-short : (n : Line) (x : Option Mesi) (ts : List Tag) → length (list_beside_load n x ts) ≤ length ts
beside-short n (Some m) ts = omega arith
beside-short n None ts = le_of (length-map ts (shared_at n)) (omega arith)

flush-short : (x : Option Line) (tags : Tags) (k s : ℕ) → length (flush_after tags x k s) ≤ length (tags k s)
flush-short None tags k s = omega arith
flush-short (Some l) tags k s = le_of (length-map (tags k s) (cleaned_at l)) (omega arith)

use-short : (c : Shape) (tags : Tags) (h : ℕ) (u : Option LineUse) → ((k s : ℕ) → length (tags k s) ≤ c.ways) → (k s : ℕ) → length (after_use c tags h u k s) ≤ c.ways
use-short c tags h None short k s = short k s
use-short c tags h (Some u) short k s =
    cond_both u.stores (after_store c tags h u.line) (after_load c tags h u.line) (λ (new : Tags). length (new k s) ≤ c.ways)
    (λ _. short-set c tags h (set_number c u.line) (put_front c.ways u.line M) (without_line u.line) short (front-short c.ways u.line M)
    (length-filter_le (λ (t : Tag). not (same_line t.0 u.line))) k s)
    (λ _. let x : Option Mesi = held_state c tags h u.line in
    short-set c tags h (set_number c u.line) (put_front c.ways u.line (loaded_state c tags h u.line x)) (list_beside_load u.line x) short
    (front-short c.ways u.line (loaded_state c tags h u.line x)) (beside-short u.line x) k s)

took-short : (p : Design) (w : World) (e : Entry) → ((k s : ℕ) → length (w.tags k s) ≤ p.config.hart_ways) → (k s : ℕ) → length (tags_after p w e k s) ≤ p.config.hart_ways
took-short p w (Step h) short k s = use-short (hart_shape p) w.tags h (hart_use p w h) short k s
took-short p w (Commit j n c) short k s = le_both (length-filter_le (λ (t : Tag). not (names (writes_of p (w.seats j).opening) t.0)) (w.tags k s)) (short k s)
took-short p w (Lock j) short k s = le_of (length-map (w.tags k s) cleaned_tag) (short k s)
took-short p w (Flush j) short k s = le_both (flush-short (flush_line p w j) w.tags k s) (short k s)
took-short p w (Waits h) short k s = short k s
took-short p w (Idle a) short k s = short k s
took-short p w (Held a) short k s = short k s
took-short p w (Open j) short k s = short k s
took-short p w (Spec j) short k s = short k s
took-short p w (Back j n c) short k s = short k s
took-short p w (Kern j) short k s = short k s

-- ---- where lines stand

module _ (c : Shape) (tags : Tags) (fits : TagsFit c tags) where
  placed-set : (h : ℕ) (n : Line) (own other : List Tag → List Tag)
      → ((k : ℕ) (l : Line) → same_line n l ≡ false → Less l (tags k (set_number c n)) (own (tags k (set_number c n))))
      → ((k : ℕ) (l : Line) → same_line n l ≡ false → Less l (tags k (set_number c n)) (other (tags k (set_number c n))))
      → (k s : ℕ) (l : Line) → eqb s (set_number c l) ≡ false → is_held l (changed_set h (set_number c n) own other tags k s) ≡ false
  placed-set h n own other mine theirs k s l out =
      cond_both (eqb s (set_number c n)) _ (tags k s) (λ ts. is_held l ts ≡ false)
      (λ e. let at : s ≡ set_number c n = eqb-true s (set_number c n) e in
      let apart : same_line n l ≡ false = false_from_ne_true _ (λ same. false≢true (sym out ∙ eq-eqb s (set_number c l) (at ∙ ap (set_number c) (line_eq n l same)))) in
      let before : is_held l (tags k (set_number c n)) ≡ false = subst (λ v. is_held l (tags k v) ≡ false) at (fits.placed k s l out) in
      subst (λ v. is_held l (cond (eqb k h) (own (tags k v)) (other (tags k v))) ≡ false) (sym at)
      (cond_both (eqb k h) (own (tags k (set_number c n))) (other (tags k (set_number c n))) (λ ts. is_held l ts ≡ false)
      (λ _. (mine k l apart).held before) (λ _. (theirs k l apart).held before)))
      (λ _. fits.placed k s l out)

  use-placed : (h : ℕ) (u : Option LineUse) (k s : ℕ) (l : Line) → eqb s (set_number c l) ≡ false → is_held l (after_use c tags h u k s) ≡ false
  use-placed h None k s l out = fits.placed k s l out
  use-placed h (Some u) k s l out =
      cond_both u.stores (after_store c tags h u.line) (after_load c tags h u.line) (λ (new : Tags). is_held l (new k s) ≡ false)
      (λ _. placed-set h u.line (put_front c.ways u.line M) (without_line u.line)
      (λ i m apart. front_others c.ways u.line m M (tags i set) apart (fits.owners.once i set))
      (λ i m apart. without_less u.line m (tags i set) (fits.owners.once i set)) k s l out)
      (λ _. let x : Option Mesi = held_state c tags h u.line in
      placed-set h u.line (put_front c.ways u.line (loaded_state c tags h u.line x)) (list_beside_load u.line x)
      (λ i m apart. front_others c.ways u.line m (loaded_state c tags h u.line x) (tags i set) apart (fits.owners.once i set))
      (λ i m apart. beside_less u.line m x (tags i set)) k s l out)
    where
      set : ℕ
      set = set_number c u.line

  flush-placed : (x : Option Line) (k s : ℕ) (l : Line) → eqb s (set_number c l) ≡ false → is_held l (flush_after tags x k s) ≡ false
  flush-placed None k s l out = fits.placed k s l out
  flush-placed (Some n) k s l out = (less_map (cleaned_at n) (clean_line n) (clean_one_owner n) l (tags k s)).held (fits.placed k s l out)

took-placed : (p : Design) (w : World) (e : Entry) → TagsFit (hart_shape p) w.tags → (k s : ℕ) (l : Line) → eqb s (set_number (hart_shape p) l) ≡ false → is_held l (tags_after p w e k s) ≡ false
took-placed p w (Step h) f k s l out = use-placed (hart_shape p) w.tags f h (hart_use p w h) k s l out
took-placed p w (Commit j n c) f k s l out =
    (less_filter (λ (t : Tag). not (names (writes_of p (w.seats j).opening) t.0)) l (w.tags k s) (f.owners.once k s)).held (f.placed k s l out)
took-placed p w (Lock j) f k s l out = (less_map cleaned_tag (λ t. refl) (λ t. clean_owner t.1) l (w.tags k s)).held (f.placed k s l out)
took-placed p w (Flush j) f k s l out = flush-placed (hart_shape p) w.tags f (flush_line p w j) k s l out
took-placed p w (Waits h) f k s l out = f.placed k s l out
took-placed p w (Idle a) f k s l out = f.placed k s l out
took-placed p w (Held a) f k s l out = f.placed k s l out
took-placed p w (Open j) f k s l out = f.placed k s l out
took-placed p w (Spec j) f k s l out = f.placed k s l out
took-placed p w (Back j n c) f k s l out = f.placed k s l out
took-placed p w (Kern j) f k s l out = f.placed k s l out

pub took-fits : (p : Design) (w : World) (e : Entry) → TagsFit (hart_shape p) w.tags → TagsFit (hart_shape p) (tags_after p w e)
took-fits p w e f = record { owners = took_owners p w e f.owners; short = took-short p w e f.short; placed = took-placed p w e f }

pub start-fits : (p : Design) → TagsFit (hart_shape p) (start_world p).tags
start-fits p = record { owners = start_owners p; short = λ k s. omega arith; placed = λ k s l out. refl }
