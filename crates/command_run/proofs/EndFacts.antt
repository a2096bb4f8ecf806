-- How a run ends.
use Rattle.std.proofs.Common.{◌≡◌, ◌≢◌, ℕ, IsTrue, List, [], Ok, refl, sym, ◌∙◌, ap, inl}
use Rattle.std.specs.Prelude.{Option, Some, None, IfSome, unwrap_or}
use Rattle.conda_host.specs.declared.outside.Role.{Role}
use Rattle.conda_host.specs.declared.outside.Role.TheVariants as role
use Rattle.conda_host.specs.State.{HostState}
use Rattle.chip_laws.specs.Design.{Design}
use Rattle.run_report.specs.View.{View}
use Rattle.streams.specs.Using.{KeepsTo}
use Rattle.machine_run.specs.declared.machine.Machine.{Ghosts}
use Rattle.machine_run.specs.declared.run.Run.{Run}
use Rattle.machine_run.specs.declared.ending.Ending.{Ending}
use Rattle.machine_run.specs.declared.ending.Ending.TheVariants as Ending_is
use Rattle.command_run.specs.Names.{Names, HaveDistinctNames, report_file, report_uses}
use Rattle.command_run.specs.Driving.{IsStarted, HoldTexts, HasRunTexts, LeavesFiles, bytes_of_file}

pub schedule_bytes : (names : Names) (a b : HostState) → IsStarted names a b → IsTrue a.tells → (b.role role.Schedule).left ≡ bytes_of_file a names.schedule
schedule_bytes names a b started told = sym (ap (λ f. unwrap_or f []) (started.schedule told))

not_reported : (names : Names) (n : List ℕ) → n ≢ names.report → (r : Role) → report_file names.report r ≢ Some n
not_reported names n other role.Report e = other (let one : names.report ≡ n = cc in sym one)
not_reported names n other q e = cc

texts_stay : (names : Names) (j k : HostState) (journal bytes : List ℕ) → HaveDistinctNames names → IsTrue j.tells → KeepsTo (report_uses names.report) j k → HoldTexts names j journal bytes → HoldTexts names k journal bytes
texts_stay names j k journal bytes apart told keeps h = record {
  order = keeps.files (inl told) names.order (not_reported names names.order apart.order_report) ∙ h.order;
  output = go names.output apart.report_output h.output;
}
  where
    go : (o : Option (List ℕ)) → IfSome o (λ n. names.report ≢ n) → IfSome o (λ n. j.file n ≡ Some bytes) → IfSome o (λ n. k.file n ≡ Some bytes)
    go None d e = tt
    go (Some n) d e = keeps.files (inl told) n (not_reported names n (λ same. d (sym same))) ∙ e

pub ran_stays : {A : Type 0} (m : Ghosts A) (names : Names) (d : Design) (bytes : List ℕ) (j k : HostState) (run : Run A) (ending : Ending) → HaveDistinctNames names → IsTrue j.tells → KeepsTo (report_uses names.report) j k
    → HasRunTexts m names d bytes j run ending → HasRunTexts m names d bytes k run ending
ran_stays m names d bytes j k run ending apart told keeps h = record {
  verdict = h.verdict;
  stands = h.stands;
  texts = texts_stay names j k _ _ apart told keeps h.texts;
  count = h.count;
  bytes_out = h.bytes_out;
}

pub stop_ends : {A : Type 0} (m : Ghosts A) (shown : A → View) (names : Names) (d : Design) (bytes : List ℕ) (h : HostState) (run : Run A) (ending : Ending) → ending ≢ Ending_is.Whole
    → HasRunTexts m names d bytes h run ending → LeavesFiles m shown names d bytes h run (Ok ending)
stop_ends m shown names d bytes h run Ending_is.Whole other ran = absurd (other refl)
stop_ends m shown names d bytes h run (Ending_is.BadLine line why) other ran = ran
stop_ends m shown names d bytes h run Ending_is.TooManyEvents other ran = ran
stop_ends m shown names d bytes h run Ending_is.TooManyBytes other ran = ran
