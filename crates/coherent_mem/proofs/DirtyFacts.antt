-- Which lines are dirty: by the list of the dirty lines, and by the states in which the holders have a line.
use Rattle.std.proofs.Common.{◌≡◌, ℕ, ⊎_elim, Bool, true, false, ◌||◌, cond, eqb, List, [], ◌∷◌, Option, Some, None, sym, ap, subst, ◌∙◌, refl}
use Rattle.std.specs.List.{Contains}
use Rattle.std.proofs.lemmas.Bool.{cases_Bool, eqb-true, eq-eqb, or_cases}
use Rattle.conda_base.specs.LineLists.{names}
use Rattle.conda_base.specs.declared.Line.{Line}
use Rattle.conda_base.specs.declared.Mesi.{Mesi}
use Rattle.conda_base.specs.declared.Mesi.TheVariants.{M, E, S}
use Rattle.line_memory.specs.Tags.{Tags, Shape, held_state, is_in_m, some_below}
use Rattle.line_memory.specs.Copies.{copy_after, has_same_owner}
use Rattle.line_memory.specs.Backing.{BackingView, IsBacking, shape_of, copy_of, view_of, dirty_in}
use Rattle.line_memory.proofs.BelowLemmas.{some_exists, some_found}
use Rattle.line_memory.proofs.MemberLemmas.{cons_cases, cons_here, cons_later, none_in_nil, state_of_dirty, dirty_of_state}
use Rattle.conda_base.proofs.LineLemmas.{line_by_number}

-- some holder has the line in M
abbrev pub is_dirty : Shape → Tags → Line → Bool
is_dirty shape tags l = some_below shape.holders (λ h. is_in_m (held_state shape tags h l))

-- Copies' step over the holders' states
abbrev pub copy_next : BackingView → BackingView → Line → List ℕ
copy_next old new l =
    cond (is_dirty (shape_of new) new.tags l)
    (cond (has_same_owner (shape_of new) old.tags new.tags l) (copy_of old l) (view_of old l))
    (view_of new l)

pub is_m : (o : Option Mesi) → is_in_m o ≡ true → o ≡ Some M
is_m None is = absurd cc
is_m (Some M) is = refl
is_m (Some E) is = absurd cc
is_m (Some S) is = absurd cc

or_true : (b : Bool) → (b || true) ≡ true
or_true true = refl
or_true false = refl

named : (lines : List Line) (l : Line) → Contains lines l → names lines l ≡ true
named [] l is = absurd (none_in_nil l is)
named (line ∷ lines) l is =
    ⊎_elim
    (λ (first : line ≡ l). rw (eq-eqb line.0 l.0 (ap (λ (b : Line). b.0) first)) refl)
    (λ (later : Contains lines l). rw (named lines l later) (or_true (eqb line.0 l.0)))
    (cons_cases line l lines is)

contained : (lines : List Line) (l : Line) → names lines l ≡ true → Contains lines l
contained [] l is = absurd cc
contained (line ∷ lines) l is =
    ⊎_elim
    (λ (first : eqb line.0 l.0 ≡ true).
    subst (λ (b : Line). Contains (line ∷ lines) b) (line_by_number line l (eqb-true _ _ first)) (cons_here line lines))
    (λ (later : names lines l ≡ true). cons_later line l lines (contained lines l later))
    (or_cases (eqb line.0 l.0) (names lines l) is)

-- a line is listed as dirty where some holder has it in M
pub dirty_named : (b : BackingView) (l : Line) → IsBacking b → names (dirty_in b) l ≡ is_dirty (shape_of b) b.tags l
dirty_named b l is =
    ⊎_elim
    (λ (on : is_dirty (shape_of b) b.tags l ≡ true).
    let found = some_exists b.holders (λ h. is_in_m (held_state (shape_of b) b.tags h l)) on in
    named (dirty_in b) l (dirty_of_state b l found.0 is.some_sets found.1 (is_m _ found.2)) ∙ sym on)
    (λ (off : is_dirty (shape_of b) b.tags l ≡ false). ⊎_elim
    (λ (listed : names (dirty_in b) l ≡ true).
    let at = state_of_dirty b l is (contained (dirty_in b) l listed) in
    let on : is_dirty (shape_of b) b.tags l ≡ true = some_found b.holders at.0 (λ h. is_in_m (held_state (shape_of b) b.tags h l)) at.1 (ap is_in_m at.2) in
    let both : true ≡ false = sym on ∙ off in absurd cc)
    (λ (none : names (dirty_in b) l ≡ false). none ∙ sym off)
    (cases_Bool (names (dirty_in b) l)))
    (cases_Bool (is_dirty (shape_of b) b.tags l))

pub follows : (old new : BackingView) (l : Line) → IsBacking new → copy_of new l ≡ copy_next old new l
    → copy_of new l ≡ copy_after (shape_of new) old.tags new.tags l (copy_of old l) (view_of old l) (view_of new l)
follows old new l is told =
    told ∙
    ap (λ b. cond b (cond (has_same_owner (shape_of new) old.tags new.tags l) (copy_of old l) (view_of old l)) (view_of new l))
    (sym (dirty_named new l is))
