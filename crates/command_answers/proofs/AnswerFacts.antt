-- Answers of steps that come after others.
use Rattle.std.proofs.Common.{◌≡◌, ℕ, Bool, true, false, IsTrue, List, refl, sym, ◌∙◌, ap, subst, inl, inr}
use Rattle.std.specs.Prelude.{◌⊎◌, Option, Some, None, IfSome, IsSomeAnd, is_some}
use Rattle.conda_host.specs.declared.outside.Role.{Role}
use Rattle.conda_host.specs.State.{HostState, is_created, IsLater, Rose}
use Rattle.conda_host.proofs.Steps.{rose_after, opened_same}
use Rattle.streams.specs.Using.{KeepsTo}
use Rattle.streams.proofs.UsingFacts.{keeps_more, keeps_trans}
use Rattle.command_run.specs.Driving.{HoldsFrontAt}
use Rattle.command_answers.specs.declared.status.Status.{Status}
use Rattle.command_answers.specs.declared.status.Status.TheVariants as status
use Rattle.command_answers.specs.Answers.{Command, Outcome, Answers, CreatesAfter, HasCause, uses_at, uses_before}
use Rattle.command_answers.specs.Preparing.{OnlyOpens}

-- steps that open some of a command's roles keep to what it uses, whatever it answers
pub opens_keeps : (k : Command) (answer : Status) (opens : Role → Bool) (a b : HostState) → ((r : Role) → is_some (k.opens answer r) ≡ false → opens r ≡ false) → OnlyOpens opens a b → KeepsTo (uses_at k answer) a b
opens_keeps k answer opens a b some p = record {
  later = p.later;
  files = λ told n h. p.files n;
  opened = λ r d. opened_same (p.roles r (some r d));
  created = λ r e is. p.created r;
  kept = λ r e own. p.created r;
}

-- before any file is created
pub opens_before : (k : Command) (answer : Status) (opens : Role → Bool) (a b : HostState) → ((r : Role) → is_some (k.opens answer r) ≡ false → opens r ≡ false) → OnlyOpens opens a b → KeepsTo (uses_before k answer) a b
opens_before k answer opens a b some p = record {
  later = p.later;
  files = λ told n h. p.files n;
  opened = λ r d. opened_same (p.roles r (some r d));
  created = λ r e is. p.created r;
  kept = λ r e own. p.created r;
}

-- a command that is another's last steps: it creates the same files, opens no other role, and takes no memory
pub record IsEndOf (last whole : Command) : Type 0 where
  pub opens : (answer : Status) (r : Role) (n : List ℕ) → last.opens answer r ≡ Some n → whole.opens answer r ≡ Some n
  pub creates : whole.creates ≡ last.creates
  pub first : whole.opens_first ≡ last.opens_first
  pub memory : last.takes_memory ≡ false

rose_if : (o w : Option (List ℕ)) (a b c : HostState) (r : Role) → ((n : List ℕ) → o ≡ Some n → w ≡ Some n) → IsLater a b → IsSomeAnd o (Rose b c r) → IsSomeAnd w (Rose a c r)
rose_if None w a b c r same p h = absurd h
rose_if (Some n) w a b c r same p h = subst (λ x. IsSomeAnd x (Rose a c r)) (sym (same n refl)) (rose_after p h)

pub told_after : {a b : HostState} → IsLater a b → IsTrue a.tells → IsTrue b.tells
told_after p told = subst IsTrue (sym p.tells) told

cause_after : (last whole : Command) (first second : Outcome) (a b c : HostState) (answer : Status) → IsEndOf last whole → IsLater a b → (IsTrue a.tells → first ≡ second)
    → HasCause last first b c answer → HasCause whole second a c answer
cause_after last whole first second a b c (status.ReadFault r) of p same h =
    rose_if (last.opens (status.ReadFault r) r) (whole.opens (status.ReadFault r) r) a b c r (of.opens (status.ReadFault r) r) p h
cause_after last whole first second a b c (status.WriteFault r) of p same h =
    rose_if (last.creates (status.WriteFault r) r) (whole.creates (status.WriteFault r) r) a b c r (λ n e. ap (λ f. f (status.WriteFault r) r) of.creates ∙ e) p h
cause_after last whole first second a b c status.OutOfMemory of p same h = let no : true ≡ false = sym h ∙ of.memory in cc
cause_after last whole first second a b c other of p same h = λ told. h (told_after p told) ∙ ap (λ o. o.verdict) (same told)

-- The answers of a command whose first steps opened some of its roles, and whose last steps are a command themselves.
pub answers_after : (last whole : Command) (opens : Role → Bool) (first second : Outcome) (a b c : HostState) (answer : Status) → IsEndOf last whole
    → ((r : Role) → is_some (whole.opens answer r) ≡ false → opens r ≡ false)
    → OnlyOpens opens a b → (IsTrue a.tells → first ≡ second) → Answers last first b c answer → Answers whole second a c answer
answers_after last whole opens first second a b c answer of some p same h = record {
  cause = cause_after last whole first second a b c answer of p.later same h.cause;
  keeps = keeps_trans (opens_keeps whole answer opens a b some p)
      (keeps_more (λ r none. no_less r none (last.opens answer r) refl) (λ r e. ap (λ f. f answer r) (sym of.creates) ∙ e) (λ r n e. ap (λ f. f answer r) of.creates ∙ e) h.keeps);
  first = subst (λ o. IfSome o (CreatesAfter whole a c answer)) (sym of.first) (first_of last.opens_first h.first);
  texts = λ told no. record {
    each = λ r n e.
        (h.texts (told_after p.later told) no).each r n (ap (λ f. f answer r) (sym of.creates) ∙ e) ∙ ap (λ o. Some (o.text r)) (same told);
  };
  fronts = λ told. record {
    each = λ r n e old is.
        subst (λ o. HoldsFrontAt c (o.text r) n) (same told)
        ((h.fronts (told_after p.later told)).each r n (ap (λ f. f answer r) (sym of.creates) ∙ e) ((p.created r).created ∙ old) is);
  };
}
  where
    no_less : (r : Role) → is_some (whole.opens answer r) ≡ false → (o : Option (List ℕ)) → last.opens answer r ≡ o → is_some (last.opens answer r) ≡ false
    no_less r none None e = ap is_some e
    no_less r none (Some n) e = let no : true ≡ false = sym (ap is_some (of.opens answer r n e)) ∙ none in cc

    first_of : (w : Option Role) → IfSome w (CreatesAfter last b c answer) → IfSome w (CreatesAfter whole a c answer)
    first_of None q = tt
    first_of (Some r) q = λ closed. keeps_trans (opens_before whole answer opens a b some p)
        (keeps_more (λ x none. no_less x none (last.opens answer x) refl) (λ x e. refl) (λ x n e. let no : None ≡ Some n = e in cc) (q closed))

-- the answers of a command whose first steps came to nothing more
pub answers_early : (k : Command) (opens : Role → Bool) (o : Outcome) (a b : HostState) (answer : Status) → ((r : Role) → is_some (k.opens answer r) ≡ false → opens r ≡ false) → ((r : Role) → k.creates answer r ≡ None)
    → OnlyOpens opens a b → HasCause k o a b answer → Answers k o a b answer
answers_early k opens o a b answer some none p cause = record {
  cause = cause;
  keeps = opens_keeps k answer opens a b some p;
  first = go k.opens_first;
  texts = λ told no. record { each = λ r n e. let no_file : None ≡ Some n = sym (none r) ∙ e in cc };
  fronts = λ told. record { each = λ r n e old is. let no_file : None ≡ Some n = sym (none r) ∙ e in cc };
}
  where
    go : (w : Option Role) → IfSome w (CreatesAfter k a b answer)
    go None = tt
    go (Some r) = λ closed. opens_before k answer opens a b some p

-- ---- what follows for every command

-- where no count of the host rose, the answer is what the bytes lead to, unless memory ran out
pub complete : (k : Command) (o : Outcome) (a b : HostState) (answer : Status) → Answers k o a b answer → IsTrue a.tells → ((r : Role) (n : List ℕ) → Rose a b r n → ⊥) → (answer ≡ status.OutOfMemory) ⊎ (answer ≡ o.verdict)
complete k o a b answer h told none = go answer h.cause
  where
    no_fault : {A : Type 0} (w : Option (List ℕ)) (r : Role) → IsSomeAnd w (Rose a b r) → A
    no_fault None r h = absurd h
    no_fault (Some n) r h = absurd (none r n h)

    go : (x : Status) → HasCause k o a b x → (x ≡ status.OutOfMemory) ⊎ (x ≡ o.verdict)
    go (status.ReadFault r) h = no_fault (k.opens (status.ReadFault r) r) r h
    go (status.WriteFault r) h = no_fault (k.creates (status.WriteFault r) r) r h
    go status.OutOfMemory h = inl refl
    go other h = inr (h told)

-- no file was created of a role for which there is none by this answer
pub not_created : (k : Command) (o : Outcome) (a b : HostState) (answer : Status) → Answers k o a b answer → (r : Role) → k.creates answer r ≡ None → is_created a r ≡ false → is_created b r ≡ false
not_created k o a b answer h r none old = go (is_created b r) refl
  where
    go : (t : Bool) → is_created b r ≡ t → is_created b r ≡ false
    go true is = let no : true ≡ false = sym is ∙ (h.keeps.created r none is).created ∙ old in cc
    go false is = is
