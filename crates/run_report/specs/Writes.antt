-- What writing a piece of the report does.
use Rattle.std.specs.Prelude.{ℕ, List, [], ◌++◌, Result, Ok, Err}
use Rattle.conda_host.specs.declared.outside.Role.TheVariants.{Report}
use Rattle.streams.specs.Seen.{Seen, Puts, PutsFront}

-- all of the text was added to the report's
abbrev pub Wrote : Seen → Seen → List ℕ → Type 0
Wrote old new text = Puts old new Report text

-- a call failed, and a front of the text was added to the report's
abbrev pub WrotePart : Seen → Seen → List ℕ → Type 0
WrotePart old new text = PutsFront old new Report text

-- what a call does that writes a text: all of it was taken, or it stopped within it
abbrev pub Writes : {A T E : Type 0} → (A → A → List ℕ → Type 0) → (A → A → E → List ℕ → Type 0)
    → A → A → List ℕ → Result T E → Type 0
Writes wrote stopped old new text (Ok done) = wrote old new text
Writes wrote stopped old new text (Err stop) = stopped old new stop text

-- Pieces one after another are one text. What stopped within a piece stopped within each text that it begins, and, after
-- other pieces, within these and it.
pub record IsWriting {A E : Type 0} (wrote : A → A → List ℕ → Type 0)
    (stopped : A → A → E → List ℕ → Type 0) : Type 0 where
  pub nothing : (a : A) → wrote a a []
  pub both : (a b c : A) (s t : List ℕ) → wrote a b s → wrote b c t → wrote a c (s ++ t)
  pub after : (a b c : A) (stop : E) (s t : List ℕ) → wrote a b s → stopped b c stop t
      → stopped a c stop (s ++ t)
  pub early : (a b : A) (stop : E) (s t : List ℕ) → stopped a b stop s → stopped a b stop (s ++ t)
