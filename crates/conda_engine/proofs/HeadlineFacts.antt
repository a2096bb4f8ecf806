-- The headline of a run that is done.
use Rattle.std.proofs.Common.{◌≡◌, ℕ, List, [], IsTrue, sym, ◌∙◌, ap, subst}
use Rattle.std.specs.Prelude.{Option, Some, None, IfSome, unwrap_or}
use Rattle.conda_host.specs.State.{HostState}
use Rattle.conda_base.specs.declared.actor.Actor.{Actor}
use Rattle.chip_laws.specs.Design.{Design, design_for}
use Rattle.command_run.specs.Driving.{bytes_of_file}
use Rattle.command_words.specs.Words.{Files}
use Rattle.command_answers.specs.declared.status.Status.{Status}
use Rattle.command_answers.specs.declared.status.Status.TheVariants as status
use Rattle.command_answers.specs.Answers.{Answers}
use Rattle.conda_engine.specs.Ends.{HoldsOfRun}
use Rattle.conda_engine.specs.Headline.{HasHeadlineAtDone, design_of_files, events_of_files}
use Rattle.command_answers.specs.Preparing.{IsEarly, IsReadyFor, IsUnready, OnlyOpens, PreparedView, design_in, is_first}
use Rattle.conda_engine.specs.Rows.{run_command, run_outcome}
use Rattle.command_answers.specs.Verdict.{Account, all_events}
use Rattle.conda_engine.proofs.CommandFacts.{design_same}
use Rattle.conda_engine.proofs.LawFacts.{run_done}

-- the design of a run that is ready is what its files say
ready_design : (files : Files) (a : HostState) (p : PreparedView) (h : IsReadyFor files a p) → IsTrue a.tells → design_in p ≡ design_of_files files a
ready_design files a p h tells =
    ap (λ image. design_for p.config image) h.image.loaded ∙ design_same files a p h tells

lawful_at_done : (law : Design → List Actor → Type 0) (files : Files) (a b : HostState) (p : PreparedView) (h : IsReadyFor files a p) → OnlyOpens is_first a b → IsTrue a.tells
    → HoldsOfRun law (design_in p) b (bytes_of_file b p.files.schedule) status.Done → law (design_of_files files a) (events_of_files files a)
lawful_at_done law files a b p h r tells holds =
    let P : Design → List ℕ → Type 0 = λ d schedule. law d (all_events d schedule) in
    let told : bytes_of_file b p.files.schedule ≡ bytes_of_file a files.schedule =
    ap (λ (f : Files). bytes_of_file b f.schedule) h.named ∙ ap (λ f. unwrap_or f []) (r.files files.schedule) in
    subst (P (design_of_files files a)) told
    (subst (λ d. P d (bytes_of_file b p.files.schedule)) (ready_design files a p h tells)
    (holds (subst IsTrue (sym r.later.tells) tells) tt))

run_headline : (account : Account) (law : Design → List Actor → Type 0) (files : Files) (a b c : HostState) (p : PreparedView) (answer : Status) → IsReadyFor files a p → OnlyOpens is_first a b
    → Answers (run_command files) (run_outcome account files a) a c answer
    → HoldsOfRun law (design_in p) b (bytes_of_file b p.files.schedule) answer → HasHeadlineAtDone account law files a c answer
run_headline account law files a b c p answer h r answers holds tells done = record {
  texts = run_done account files a c answer answers done;
  lawful = lawful_at_done law files a b p h r tells (subst (HoldsOfRun law (design_in p) b (bytes_of_file b p.files.schedule)) done holds);
}

pub headline_for : (account : Account) (law : Design → List Actor → Type 0) (w : Option Files) (a b c : HostState) (p : PreparedView) (answer : Status) → IfSome w (λ files. IsReadyFor files a p) → OnlyOpens is_first a b
    → IfSome w (λ files. Answers (run_command files) (run_outcome account files a) a c answer)
    → HoldsOfRun law (design_in p) b (bytes_of_file b p.files.schedule) answer → IfSome w (λ files. HasHeadlineAtDone account law files a c answer)
headline_for account law None a b c p answer h r answers holds = tt
headline_for account law (Some files) a b c p answer h r answers holds = run_headline account law files a b c p answer h r answers holds

-- a run that isn't ready isn't done
pub unready_headline : (account : Account) (law : Design → List Actor → Type 0) (w : Option Files) (a c : HostState) (answer : Status) → IfSome w (λ files. IsUnready files a c answer)
    → IfSome w (λ files. HasHeadlineAtDone account law files a c answer)
unready_headline account law None a c answer h = tt
unready_headline account law (Some files) a c answer h = λ tells done. absurd (late (subst IsEarly done h.early))
  where
    late : IsEarly status.Done → ⊥
    late e = e
