-- A generated workload's report is written.
use Rattle.std.proofs.Common.{◌≡◌, ℕ, true, false, IsTrue, List, [], length, refl, sym, ◌∙◌, ap, subst, append-nil}
use Rattle.std.specs.Prelude.{Some, None}
use Rattle.std.proofs.lemmas.List.{length-map}
use Rattle.conda_base.specs.declared.actor.Actor.{Actor}
use Rattle.conda_host.specs.declared.outside.Role.{Role}
use Rattle.conda_host.specs.declared.outside.Role.TheVariants as role
use Rattle.conda_host.specs.State.{HostState, Rose}
use Rattle.chip_laws.specs.Design.{Design}
use Rattle.streams.specs.Using.{KeepsTo}
use Rattle.streams.proofs.UsingFacts.{keeps_more, keeps_refl}
use Rattle.machine_run.specs.declared.machine.Machine.{Ghosts}
use Rattle.machine_run.specs.declared.run.Run.{Run}
use Rattle.run_report.specs.View.{View}
use Rattle.run_report.specs.Texts.{report_text}
use Rattle.command_run.specs.Names.{report_file, report_uses}
use Rattle.command_run.specs.Driving.{CreatedHoldsFront, HoldsFrontAt}
use Rattle.self_workload.specs.Draws.{draws_after, generator_after}
use Rattle.self_workload.specs.Drawn.{drawn_actor}
use Rattle.self_workload.specs.Workload.{events_of_seed}
use Rattle.self_workload.proofs.WordFacts.{length_draws}
use Rattle.self_run.specs.Designs.{design_of_seed}
use Rattle.self_run.specs.Generated.{HasRunFirst}
use Rattle.command_answers.specs.declared.status.Status.{Status}
use Rattle.command_answers.specs.declared.status.Status.TheVariants as status
use Rattle.command_answers.specs.Answers.{Answers, Outcome, uses_at}
use Rattle.command_answers.specs.LastFile.{file_of_role, text_outcome}
use Rattle.conda_engine.specs.SelfRun.{self_command}
use Rattle.conda_engine.proofs.EndFacts.{ShowsReport}

-- a role that has a name is the report's, under its name
pub record IsReport (r : Role) (name n : List ℕ) : Type 0 where
  pub role_is : r ≡ role.Report
  pub name_is : name ≡ n

the_report : (name : List ℕ) (r : Role) (n : List ℕ) → file_of_role role.Report name r ≡ Some n → IsReport r name n
the_report name role.Report n e = record { role_is = refl; name_is = cc }
the_report name other n e = let no : None ≡ Some n = e in cc

keeps_report : (name : List ℕ) (answer : Status) {a b : HostState} → (self_command name).creates answer ≡ file_of_role role.Report name → KeepsTo (report_uses name) a b
    → KeepsTo (uses_at (self_command name) answer) a b
keeps_report name answer same p = keeps_more (λ r e. refl) (λ r e. fewer r (ap (λ f. f r) (sym same) ∙ e)) (λ r n e. ap (λ f. f r) same ∙ more r n e) p
  where
    fewer : (r : Role) → file_of_role role.Report name r ≡ None → report_file name r ≡ None
    fewer role.Report e = e
    fewer other e = refl

    more : (r : Role) (n : List ℕ) → report_file name r ≡ Some n → file_of_role role.Report name r ≡ Some n
    more role.Report n e = e
    more other n e = let no : None ≡ Some n = e in cc

pub is_written : (name text : List ℕ) (a b : HostState) → (IsTrue a.tells → b.file name ≡ Some text) → KeepsTo (report_uses name) a b
    → Answers (self_command name) (text_outcome text) a b status.Done
is_written name text a b held keeps = record {
  cause = λ told. refl;
  keeps = keeps_report name status.Done refl keeps;
  first = tt;
  texts = λ told fault. record { each = λ r n e. at told r n e };
  fronts = λ told. record { each = λ r n e old is. record { written = text; file = at told r n e; front = record { rest = []; same = sym (append-nil text) } } };
}
  where
    at : IsTrue a.tells → (r : Role) (n : List ℕ) → file_of_role role.Report name r ≡ Some n → b.file n ≡ Some text
    at told r n e = subst (λ x. b.file x ≡ Some text) (the_report name r n e).name_is (held told)

pub is_unwritten : (name text : List ℕ) (a b : HostState) → Rose a b role.Report name → (IsTrue a.tells → CreatedHoldsFront a b role.Report text name) → KeepsTo (report_uses name) a b
    → Answers (self_command name) (text_outcome text) a b (status.WriteFault role.Report)
is_unwritten name text a b rose front keeps = record {
  cause = rose;
  keeps = keeps_report name (status.WriteFault role.Report) refl keeps;
  first = tt;
  texts = λ told fault. let no : true ≡ false = fault in cc;
  fronts = λ told. record { each = λ r n e. at told r n e };
}
  where
    at : IsTrue a.tells → (r : Role) (n : List ℕ) → file_of_role role.Report name r ≡ Some n → (a.role r).created ≡ false → IsTrue (b.role r).created → HoldsFrontAt b text n
    at told role.Report n e old is = subst (HoldsFrontAt b text) (the_report name role.Report n e).name_is ((front told).front old is)
    at told other n e old is = let no : None ≡ Some n = e in cc

-- nothing was done, for want of memory
pub is_unmade : (name : List ℕ) (o : Outcome) (s : HostState) → Answers (self_command name) o s s status.OutOfMemory
is_unmade name o s = record {
  cause = refl;
  keeps = keeps_refl _ s;
  first = tt;
  texts = λ told fault. record { each = λ r n e. let no : None ≡ Some n = e in cc };
  fronts = λ told. record { each = λ r n e. let no : None ≡ Some n = e in cc };
}

length_events : (seed count : ℕ) → length (events_of_seed seed count) ≡ count
length_events seed count =
    length-map (draws_after seed 64 count) drawn_actor ∙ length_draws count (generator_after seed 64)

-- what a machine shows after the first events of a seed is their report
pub report_of_first : {A : Type 0} (m : Ghosts A) (shown : A → View) (report : Design → List Actor → List ℕ) → ShowsReport m shown report → (seed count : ℕ) (run : Run A) → HasRunFirst m seed count run
    → report_text (shown run.machine) run.events run.output_bytes ≡ report (design_of_seed seed) (events_of_seed seed count)
report_of_first m shown report shows seed count run r =
    ap (λ n. report_text (shown run.machine) n run.output_bytes) (r.events ∙ sym (length_events seed count))
    ∙ ap (λ n. report_text (shown run.machine) (length (events_of_seed seed count)) n) r.bytes
    ∙ shows.same (design_of_seed seed) run.machine (events_of_seed seed count) r.stands
