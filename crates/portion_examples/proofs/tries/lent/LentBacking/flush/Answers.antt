use Rattle.std.proofs.Common.{◌≡◌, ℕ, zero, suc, List, [], ◌∷◌, ◌++◌, Option, Some, None, length, take, drop, sym, ap, subst, ◌∙◌, refl, arith}
use Rattle.std.proofs.Math.Path.{fun_ext}
use Rattle.std.proofs.lemmas.List.{take_all, drop_all, append-nil}
use Rattle.conda_base.specs.declared.Line.{Line}
use Rattle.conda_base.specs.declared.Mesi.{Mesi}
use Rattle.conda_base.specs.declared.Mesi.TheVariants.{M, E, S}
use Rattle.line_memory.specs.Access.{after_flush}
use Rattle.line_memory.specs.Tags.{Tags}
use Rattle.line_memory.specs.Backing.{BackingView, IsDirty, flushed}
use Rattle.portion_examples.proofs.tries.lent.LentBacking.flush.Goals as goal

abbrev first : Line
first = record { 0 = 0 }

abbrev tags_of : Option Mesi → Tags
tags_of held holder set = elim holder [
  | zero ↦ elim set [ zero ↦ elim held [ None ↦ [] | Some state ↦ (first, state) ∷ [] ] | suc s ↦ [] ]
  | suc h ↦ []
]

-- what is shown of the parts of a memory
abbrev lent : List ℕ → List ℕ → Option Mesi → BackingView
lent copy seen held = record {
  line_bytes = 64;
  base = 0;
  holders = 1;
  sets = 1;
  ways = 1;
  view = seen;
  copies = copy;
  tags = tags_of held;
}

-- a dirty line is the one that is there, and it is in M
dirty_is : (copy seen : List ℕ) (held : Option Mesi) (l : Line) → IsDirty (lent copy seen held) l
    → (held ≡ Some M) × (first ≡ l)
dirty_is copy seen None l (k, below, is) = absurd (omega arith)
dirty_is copy seen (Some M) l (zero, below, is) = (refl, is)
dirty_is copy seen (Some M) l (suc k, below, is) = absurd (omega arith)
dirty_is copy seen (Some E) l (k, below, is) = absurd (omega arith)
dirty_is copy seen (Some S) l (k, below, is) = absurd (omega arith)

cleaned : (h s : ℕ) → tags_of (Some E) h s ≡ after_flush (tags_of (Some M)) first h s
cleaned zero zero = refl
cleaned zero (suc s) = refl
cleaned (suc h) s = refl

-- the line that is seen, put into memory's own copy, which is no longer than it
copied : (copy seen : List ℕ) → length copy ≡ 64 → length seen ≡ 64 → seen ≡ take 64 seen ++ drop 64 copy
copied copy seen copy_size seen_size =
    sym (ap (λ (rest : List ℕ). take 64 seen ++ rest) (drop_all 64 copy (omega arith))
    ∙ append-nil (take 64 seen) ∙ take_all 64 seen (omega arith))

is_flushed : (copy seen : List ℕ) → length copy ≡ 64 → length seen ≡ 64
    → lent seen seen (Some E) ≡ flushed (lent copy seen (Some M)) first
is_flushed copy seen copy_size seen_size =
    ap (λ (own : List ℕ). record (lent copy seen (Some E)) { copies = own })
    (copied copy seen copy_size seen_size) ∙
    ap (λ (tags : Tags). record (flushed (lent copy seen (Some M)) first) { tags = tags })
    (fun_ext (λ h. fun_ext (λ s. cleaned h s)))

pub returns-clause-flushed : goal.returns-clause-flushed
returns-clause-flushed c =
    let m = c.args.self.now in
    let is = dirty_is m.copy m.seen m.held c.args.l c.requires in
    subst (λ (l : Line). lent m.seen m.seen (Some E) ≡ flushed (lent m.copy m.seen m.held) l) is.1
    (subst (λ (held : Option Mesi). lent m.seen m.seen (Some E) ≡ flushed (lent m.copy m.seen held) first)
    (sym is.0) (is_flushed m.copy m.seen m.copy_size m.seen_size))
