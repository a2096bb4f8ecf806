-- Lists that name no line twice.
use Rattle.std.proofs.Common.{◌≡◌, Bool, true, false, ◌||◌, cond, eqb, List, [], ◌∷◌, ◌++◌, refl, ap, ◌∙◌}
use Rattle.std.proofs.lemmas.Bool.{or_parts}
use Rattle.conda_base.specs.declared.Line.{Line}
use Rattle.conda_base.specs.LineLists.{names, with_new, with_all_new}
use Rattle.conda_base.proofs.LineListLemmas.{names-push, same_line-swap}

-- no line stands twice
abbrev pub AreDistinct : List Line → Type 0
AreDistinct [] = Unit {0}
AreDistinct (l ∷ lines) = (names lines l ≡ false) × AreDistinct lines

AreDistinct-push : (lines : List Line) (l : Line) → names lines l ≡ false → AreDistinct lines → AreDistinct (lines ++ l ∷ [])
AreDistinct-push [] l out are = (refl, tt)
AreDistinct-push (k ∷ lines) l out are =
    let parts = or_parts (eqb k.0 l.0) (names lines l) out in
    let other : eqb l.0 k.0 ≡ false = same_line-swap k.0 l.0 parts.0 in
    (names-push lines l k ∙ ap (λ b. b || eqb l.0 k.0) are.0 ∙ other, AreDistinct-push lines l parts.1 are.1)

pub AreDistinct-with_new : (lines : List Line) (l : Line) → AreDistinct lines → AreDistinct (with_new lines l)
AreDistinct-with_new lines l are = go (names lines l) refl
  where
    go : (b : Bool) → names lines l ≡ b → AreDistinct (cond b lines (lines ++ l ∷ []))
    go true e = are
    go false e = AreDistinct-push lines l e are

pub AreDistinct-with_all_new : (lines more : List Line) → AreDistinct lines → AreDistinct (with_all_new lines more)
AreDistinct-with_all_new lines [] are = are
AreDistinct-with_all_new lines (l ∷ more) are = AreDistinct-with_all_new (with_new lines l) more (AreDistinct-with_new lines l are)
