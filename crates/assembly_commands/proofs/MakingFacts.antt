-- A command that reads one file, and makes another of it.
use Rattle.std.proofs.Common.{◌≡◌, ◌≤◌, ◌<◌, ℕ, Bool, true, false, List, length, IsTrue, Result, refl, sym, ◌∙◌, ap, subst, arith}
use Rattle.std.specs.Prelude.{Some, None, IsSomeAnd, is_some, nat_lt, ◌==◌}
use Rattle.std.proofs.lemmas.Bool.Decides.{nat_tests}
use Rattle.conda_host.specs.declared.outside.Role.{Role}
use Rattle.conda_host.specs.Role.{index_of}
use Rattle.conda_host.specs.State.{HostState, IsReading, Rose}
use Rattle.streams.proofs.StreamFacts.{self_test}
use Rattle.command_run.specs.Driving.{bytes_of_file}
use Rattle.command_answers.specs.declared.status.Status.{Status}
use Rattle.command_answers.specs.declared.status.Status.TheVariants as status
use Rattle.assembly_commands.specs.Making.{IsMadeText, IsMakeError, making_command, making_outcome, said_outcome}
use Rattle.command_answers.specs.Answers.{Answers, HasCause}
use Rattle.command_answers.specs.LastFile.{created_last, file_command, file_of_role, text_outcome}
use Rattle.command_answers.proofs.AnswerFacts.{IsEndOf, answers_after, answers_early}
use Rattle.command_answers.proofs.LastFileFacts.{role_cause}
use Rattle.command_answers.proofs.ReadingFacts.{opens_one}

-- the one role
abbrev is_role : Role → Role → Bool
is_role role r = index_of role == index_of r

opened_role : (role : Role) (name : List ℕ) (r : Role) → is_some (file_of_role role name r) ≡ false → is_role role r ≡ false
opened_role role name r e = go (is_role role r) refl
  where
    go : (t : Bool) → is_role role r ≡ t → is_role role r ≡ false
    go true is = let no : true ≡ false = rw is at e in cc
    go false is = is

below : (limit n : ℕ) → n ≤ limit → nat_lt limit n ≡ false
below limit n within = grind (arith, nat_tests)

above : (limit n : ℕ) → limit < n → nat_lt limit n ≡ true
above limit n far = grind (arith, nat_tests)

file_ends : (from into : Role) (source target : List ℕ) → IsEndOf (file_command into target) (making_command from source into target)
file_ends from into source target = record { opens = λ answer r n e. let no : None ≡ Some n = e in cc; creates = refl; first = refl; memory = refl }

outcome_made : (said : List ℕ → Result (List ℕ) Status) (a : HostState) (from : Role) (limit : ℕ) (source text : List ℕ) → IsMadeText said a source limit text → IsTrue a.tells
    → text_outcome text ≡ making_outcome from limit (said (bytes_of_file a source)) (bytes_of_file a source)
outcome_made said a from limit source text h told =
    sym (ap (λ bytes. making_outcome from limit (said bytes) bytes) (h.held.bytes_are told) ∙ rw (below limit (length h.bytes) h.held.within) (ap said_outcome h.text_is))

pub made_answers : (said : List ℕ → Result (List ℕ) Status) (a b c : HostState) (from into : Role) (limit : ℕ) (source target text : List ℕ) (answer : Status)
    → IsMadeText said a source limit text → IsReading a b from → Answers (file_command into target) (text_outcome text) b c answer
    → Answers (making_command from source into target) (making_outcome from limit (said (bytes_of_file a source)) (bytes_of_file a source)) a c answer
made_answers said a b c from into limit source target text answer h p answers =
    answers_after (file_command into target) (making_command from source into target) (is_role from) (text_outcome text) (making_outcome from limit (said (bytes_of_file a source)) (bytes_of_file a source)) a b c answer
    (file_ends from into source target) (opened_role from source) (opens_one (self_test from) p) (outcome_made said a from limit source text h) answers

cause_of : (said : List ℕ → Result (List ℕ) Status) (a b : HostState) (from into : Role) (limit : ℕ) (source target : List ℕ) (answer : Status) → IsMakeError said a b from source limit answer
    → HasCause (making_command from source into target) (making_outcome from limit (said (bytes_of_file a source)) (bytes_of_file a source)) a b answer
cause_of said a b from into limit source target (status.ReadFault r) h =
    subst (λ (x : Role). IsSomeAnd (file_of_role from source x) (Rose a b x)) (sym h.0) (role_cause from source a b h.1)
cause_of said a b from into limit source target (status.TooLarge r n) h = λ told.
    ap (λ x. status.TooLarge x n) h.0 ∙ ap (λ x. status.TooLarge from x) h.1 ∙ sym (rw (above limit (length (bytes_of_file a source)) (h.2 told)) refl)
cause_of said a b from into limit source target (status.Image f) h = λ told.
    sym (rw (below limit (length (bytes_of_file a source)) (h told).0) (ap (λ o. (said_outcome o).verdict) (h told).1))
cause_of said a b from into limit source target (status.Syntax line why) h = λ told.
    sym (rw (below limit (length (bytes_of_file a source)) (h told).0) (ap (λ o. (said_outcome o).verdict) (h told).1))
cause_of said a b from into limit source target status.OutOfMemory h = refl
cause_of said a b from into limit source target other h = absurd h

none_of : (said : List ℕ → Result (List ℕ) Status) (a b : HostState) (from into : Role) (limit : ℕ) (source target : List ℕ) (answer : Status) → IsMakeError said a b from source limit answer
    → (r : Role) → created_last into target answer r ≡ None
none_of said a b from into limit source target (status.ReadFault q) h r = refl
none_of said a b from into limit source target (status.TooLarge q n) h r = refl
none_of said a b from into limit source target (status.Image f) h r = refl
none_of said a b from into limit source target (status.Syntax line why) h r = refl
none_of said a b from into limit source target status.OutOfMemory h r = refl
none_of said a b from into limit source target other h r = absurd h

pub refused_answers : (said : List ℕ → Result (List ℕ) Status) (a b : HostState) (from into : Role) (limit : ℕ) (source target : List ℕ) (answer : Status)
    → IsMakeError said a b from source limit answer → IsReading a b from
    → Answers (making_command from source into target) (making_outcome from limit (said (bytes_of_file a source)) (bytes_of_file a source)) a b answer
refused_answers said a b from into limit source target answer h p =
    answers_early (making_command from source into target) (is_role from) (making_outcome from limit (said (bytes_of_file a source)) (bytes_of_file a source)) a b answer
    (opened_role from source) (none_of said a b from into limit source target answer h) (opens_one (self_test from) p)
    (cause_of said a b from into limit source target answer h)
