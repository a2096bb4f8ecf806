-- The report's file, and what a run keeps to by its answer.
use Rattle.std.proofs.Common.{◌≡◌, ℕ, List, Result, Ok, Err, refl, sym, ap}
use Rattle.std.specs.Prelude.{Some, None}
use Rattle.conda_host.specs.declared.outside.Role.{Role}
use Rattle.conda_host.specs.declared.outside.Role.TheVariants as role
use Rattle.conda_host.specs.State.{HostState, IsCreating, IsWriting, Creates}
use Rattle.streams.specs.declared.fault.Fault.{Fault}
use Rattle.streams.specs.declared.fault.Fault.TheVariants as fault
use Rattle.streams.specs.Using.{KeepsTo}
use Rattle.streams.proofs.UsingFacts.{keeps_trans, keeps_more, keeps_creating, keeps_writing}
use Rattle.machine_run.specs.declared.ending.Ending.{Ending}
use Rattle.machine_run.specs.declared.ending.Ending.TheVariants as Ending_is
use Rattle.command_run.specs.Names.{Names, text_files, all_files, report_file, report_uses, text_uses, all_uses, run_uses}

pub report_made : (name : List ℕ) {a b : HostState} → IsCreating a b role.Report name → KeepsTo (report_uses name) a b
report_made name p = keeps_creating refl p

pub report_written : (name : List ℕ) {a b c : HostState} → Creates b role.Report name → IsCreating a b role.Report name → IsWriting b c role.Report → KeepsTo (report_uses name) a c
report_written name made p q =
    keeps_trans (keeps_creating refl p) (keeps_writing (λ told. ap Some (sym (made.name told))) (λ e. cc) q)

pub all_of_text : (names : Names) {a b : HostState} → KeepsTo (text_uses names) a b → KeepsTo (all_uses names) a b
all_of_text names p = keeps_more (λ r e. e) fewer more p
  where
    fewer : (r : Role) → all_files names r ≡ None → text_files names r ≡ None
    fewer role.Order e = e
    fewer role.Output e = e
    fewer role.Report e = refl
    fewer other e = refl

    more : (r : Role) (n : List ℕ) → text_files names r ≡ Some n → all_files names r ≡ Some n
    more role.Order n e = e
    more role.Output n e = e
    more role.Report n e = cc
    more other n e = cc

pub all_of_report : (names : Names) {a b : HostState} → KeepsTo (report_uses names.report) a b → KeepsTo (all_uses names) a b
all_of_report names p = keeps_more (λ r e. refl) fewer more p
  where
    fewer : (r : Role) → all_files names r ≡ None → report_file names.report r ≡ None
    fewer role.Report e = e
    fewer other e = refl

    more : (r : Role) (n : List ℕ) → report_file names.report r ≡ Some n → all_files names r ≡ Some n
    more role.Report n e = e
    more other n e = cc

-- a run that didn't come to its report
pub text_at : (names : Names) {a b : HostState} (result : Result Ending Fault) → KeepsTo (text_uses names) a b → KeepsTo (run_uses names result) a b
text_at names (Ok Ending_is.Whole) p = all_of_text names p
text_at names (Ok other) p = p
text_at names (Err (fault.Write role.Report)) p = all_of_text names p
text_at names (Err (fault.Write other)) p = p
text_at names (Err (fault.Read other)) p = p
