use Rattle.std.proofs.Common.{◌≡◌, ◌≢◌, ℕ, zero, suc, ◌%◌, ◌≤◌, ◌⊎◌, ⊎_elim, false, List, [], ◌∷◌, Option, Some, None, length, sym, ap, ◌∙◌, refl, arith}
use Rattle.std.specs.List.{All, AllPairs}
use Rattle.conda_base.specs.declared.Line.{Line}
use Rattle.conda_base.specs.declared.Mesi.{Mesi}
use Rattle.conda_base.specs.declared.Mesi.TheVariants.{M, E, S}
use Rattle.conda_base.specs.Bytes.{bytes_of_line}
use Rattle.conda_base.proofs.LineLemmas.{line_by_number}
use Rattle.line_memory.specs.Tags.{Tag, Tags, is_in_m, modified}
use Rattle.line_memory.specs.Backing.{BackingView, IsBacking, IsInRange, IsDirty, copy_of, view_of}
use Rattle.portion_examples.proofs.tries.lent.Lent.backing.Goals as goal

abbrev first : Line
first = record { 0 = 0 }

abbrev tags_of : Option Mesi → Tags
tags_of held holder set = elim holder [
  | zero ↦ elim set [ zero ↦ elim held [ None ↦ [] | Some state ↦ (first, state) ∷ [] ] | suc s ↦ [] ]
  | suc h ↦ []
]

-- what is shown of the parts of a memory
abbrev lent : List ℕ → List ℕ → Option Mesi → BackingView
lent copy seen held = record {
  line_bytes = 64;
  base = 0;
  holders = 1;
  sets = 1;
  ways = 1;
  view = seen;
  copies = copy;
  tags = tags_of held;
}

-- what holds of no tag and of the one tag holds of every list of tags
each : (P : ℕ → List Tag → Type 0) → ((s : ℕ) → P s []) → ((state : Mesi) → P 0 ((first, state) ∷ []))
    → (held : Option Mesi) (h s : ℕ) → P s (tags_of held h s)
each P none one None zero zero = none 0
each P none one (Some state) zero zero = one state
each P none one held zero (suc s) = none (suc s)
each P none one held (suc h) s = none s

all_one : (P : Tag → Type 0) (tag : Tag) → P tag → All P (tag ∷ [])
all_one P tag is zero d below = is
all_one P tag is (suc k) d below = absurd (omega arith)

outside : (held : Option Mesi) (h s : ℕ) → (1 ≤ h) ⊎ (1 ≤ s) → tags_of held h s ≡ []
outside held zero zero past = absurd (⊎_elim (λ (a : 1 ≤ 0). omega arith) (λ (a : 1 ≤ 0). omega arith) past)
outside held zero (suc s) past = refl
outside held (suc h) s past = refl

single : (held : Option Mesi)
    → AllPairs (λ (l : Line) (k : Line). l.0 ≢ k.0) (modified (tags_of held 0 0))
single None i j d order below = absurd (omega arith)
single (Some M) i j d order below = absurd (omega arith)
single (Some E) i j d order below = absurd (omega arith)
single (Some S) i j d order below = absurd (omega arith)

in_range : (copy seen : List ℕ) (held : Option Mesi) → length seen ≡ 64
    → IsInRange (lent copy seen held) first
in_range copy seen held size = rw size (record { from = omega arith; below = omega arith })

only_first : (copy seen : List ℕ) (held : Option Mesi) (l : Line) → length seen ≡ 64
    → IsInRange (lent copy seen held) l → first ≡ l
only_first copy seen held l size there =
    let below = rw size at there.below in
    line_by_number first l (omega arith)

clean : (copy seen : List ℕ) (held : Option Mesi) (l : Line) → (is_in_m held ≡ false → copy ≡ seen)
    → first ≡ l → (IsDirty (lent copy seen held) l → ⊥)
    → copy_of (lent copy seen held) l ≡ view_of (lent copy seen held) l
clean copy seen None l same is none = ap (λ (own : List ℕ). bytes_of_line 0 64 own l.0) (same refl)
clean copy seen (Some M) l same is none = absurd (none (0, omega arith, is))
clean copy seen (Some E) l same is none = ap (λ (own : List ℕ). bytes_of_line 0 64 own l.0) (same refl)
clean copy seen (Some S) l same is none = ap (λ (own : List ℕ). bytes_of_line 0 64 own l.0) (same refl)

is_backing : (copy seen : List ℕ) (held : Option Mesi) → length copy ≡ 64 → length seen ≡ 64
    → (is_in_m held ≡ false → copy ≡ seen) → IsBacking (lent copy seen held)
is_backing copy seen held copy_size seen_size same = record {
  memory = rw seen_size (record { size = refl; whole_base = refl; whole_bytes = refl; top = omega arith });
  same = copy_size ∙ sym seen_size;
  some_sets = omega arith;
  some_ways = omega arith;
  few = omega arith;
  short = each (λ s tags. length tags ≤ 1) (λ s. omega arith) (λ state. omega arith) held;
  outside = outside held;
  once = each (λ s tags. AllPairs (λ (tag : Tag) (other : Tag). tag.0.0 ≢ other.0.0) tags)
      (λ s i j d order below. absurd (omega arith))
      (λ state i j d order below. absurd (omega arith)) held;
  placed = each (λ s tags. All (λ (tag : Tag). tag.0.0 % 1 ≡ s) tags)
      (λ s k d below. absurd (omega arith))
      (λ state. all_one (λ (tag : Tag). tag.0.0 % 1 ≡ 0) (first, state) refl) held;
  in_range = each (λ s tags. All (λ (tag : Tag). IsInRange (lent copy seen held) tag.0) tags)
      (λ s k d below. absurd (omega arith))
      (λ state. all_one (λ (tag : Tag). IsInRange (lent copy seen held) tag.0) (first, state)
      (in_range copy seen held seen_size)) held;
  single = single held;
  clean = λ l there. clean copy seen held l same (only_first copy seen held l seen_size there);
}

pub returns : goal.returns
returns c =
    let m = c.args.self.now in
    is_backing m.copy m.seen m.held m.copy_size m.seen_size m.clean
