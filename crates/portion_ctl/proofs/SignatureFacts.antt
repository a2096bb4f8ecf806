-- Signatures of the lines that a try reads and stores to.
use Rattle.std.proofs.Common.{◌≡◌, ℕ, Bool, true, false, not, ◌&&◌, cond, eqb, refl, List, [], ◌∷◌, ◌++◌, sym, ap, subst, ◌∙◌, Some}
use Rattle.conda_base.specs.declared.Line.{Line}
use Rattle.bloom_sig.proofs.HitLemmas.{listed_is_member}
use Rattle.conda_base.specs.LineLists.{names, with_new}
use Rattle.try_runs.specs.Ends.{is_sign_full}
use Rattle.bloom_sig.specs.Images.{IsSignatureOf, is_member_of}
use Rattle.bloom_sig.specs.Signatures.{Sets, inserted, is_full_for, is_member}
use Rattle.bloom_sig.proofs.ImageLemmas.{inserted_is_signed, member_is_no_change, members_are_of_lines}

pub listed_member : (s : Sets) (lines : List Line) (l : Line) → IsSignatureOf s lines → names lines l ≡ true → is_member s l ≡ true
listed_member s lines l is listed = members_are_of_lines s lines l is.image ∙ listed_is_member s.bits lines l listed

-- the signature with a line, over the list with it
pub inserted-new : (s : Sets) (lines : List Line) (l : Line) → IsSignatureOf s lines → IsSignatureOf (inserted s l) (with_new lines l)
inserted-new s lines l is = go (names lines l) refl
  where
    go : (b : Bool) → names lines l ≡ b → IsSignatureOf (inserted s l) (cond b lines (lines ++ l ∷ []))
    go true e = subst (λ (t : Sets). IsSignatureOf t lines) (sym (member_is_no_change s l (listed_member s lines l is e))) is
    go false e = inserted_is_signed s lines l is

-- the test of a limit on the sets is that on the list
pub is_full_for-lines : (s : Sets) (bits limit : ℕ) (lines : List Line) (l : Line) → s.bits ≡ bits → IsSignatureOf s lines
    → is_full_for s l limit ≡ is_sign_full bits limit lines (Some l)
is_full_for-lines s bits limit lines l same is =
    ap (λ b. not b && eqb s.fill limit) (members_are_of_lines s lines l is.image)
    ∙ ap (λ n. not (is_member_of s.bits lines l) && eqb n limit) is.fill
    ∙ ap (λ n. is_sign_full n limit lines (Some l)) same
