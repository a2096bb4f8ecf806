-- The report's file as the file of its sink.
use Rattle.std.proofs.Common.{◌≡◌, ℕ, true, false, IsTrue, List, [], ◌++◌, Result, Ok, Err, refl, sym, ◌∙◌, ap, subst, append-nil, inl, inr}
use Rattle.std.specs.Prelude.{◌||◌, ◌==◌, Option, Some, None, IfErr, IsSomeAnd, OnErr}
use Rattle.std.proofs.lemmas.Bool.{cond-true}
use Rattle.conda_host.specs.declared.outside.Role.{Role}
use Rattle.conda_host.specs.declared.outside.Role.TheVariants as role
use Rattle.conda_host.specs.Role.{index_of}
use Rattle.conda_host.specs.State.{HostState, IsWriting, Creates, RoseForAll}
use Rattle.streams.specs.declared.fault.Fault.{Fault}
use Rattle.streams.specs.declared.fault.Fault.TheVariants as fault
use Rattle.streams.specs.declared.sinks.Sinks.{Sinks}
use Rattle.streams.specs.Seen.{ShowsText, PutsFront, fault_in}
use Rattle.streams.specs.Sink.{SinkView, IsMade}
use Rattle.streams.specs.Streaming.{has_sink, text_at, seen_alone, AreMade, AreWhole, IsLedAlone}
use Rattle.streams.specs.Holding.{SinkHolds, SinkHoldsFront}
use Rattle.streams.proofs.FilesFacts.{sink_file, whole_holds, front_holds}
use Rattle.streams.proofs.PutFacts.{front_shown, shown_front}
use Rattle.streams.proofs.StreamFacts.{role_tells}
use Rattle.machine_run.specs.Tasks.{AreReportSinks, IsUnusedSink}
use Rattle.command_run.specs.Driving.{CreatedHoldsFront}
use Rattle.command_run.proofs.FrontFacts.{front_of}

-- ---- the sinks of a report

-- the role whose text they take
pub is_report : (a : Sinks) → AreReportSinks a → (r : Role) → IsTrue (has_sink a r) → r ≡ role.Report
is_report a ready r is = go a.first a.second ready.report ready.alone is
  where
    go : (u w : Option SinkView) → IsSomeAnd u (IsUnusedSink role.Report) → w ≡ None → IsTrue (has_sink (record { first = u; second = w }) r) → r ≡ role.Report
    go None w there none is = absurd there
    go (Some x) (Some y) there none is = cc
    go (Some x) None there none is =
        elim (role_tells x.role r) [
          | inl e ↦ sym e.1 ∙ there.role_is
          | inr e ↦ let no : true ≡ false = sym is ∙ ap (λ b. b || false) e.0 in cc
        ]

pub has_report : (a : Sinks) → AreReportSinks a → IsTrue (has_sink a role.Report)
has_report a ready = go a.first a.second ready.report ready.alone
  where
    go : (u w : Option SinkView) → IsSomeAnd u (IsUnusedSink role.Report) → w ≡ None → IsTrue (has_sink (record { first = u; second = w }) role.Report)
    go None w there none = absurd there
    go (Some x) (Some y) there none = cc
    go (Some x) None there none = ap (λ r. (index_of r == index_of role.Report) || false) there.role_is

pub report_sinks_made : (h : HostState) (a : Sinks) (name : List ℕ) → AreReportSinks a → Creates h role.Report name → AreMade h a
report_sinks_made h a name ready made = go a.first a.second ready.report ready.alone
  where
    here : IsMade h role.Report
    here = record {
      created = made.created;
      file = λ told. ap h.file (made.name told) ∙ made.file told ∙ ap Some (sym (made.written told));
    }

    go : (u w : Option SinkView) → IsSomeAnd u (IsUnusedSink role.Report) → w ≡ None → AreMade h (record { first = u; second = w })
    go None w there none = absurd there
    go (Some x) (Some y) there none = cc
    go (Some x) None there none = record { first = subst (IsMade h) (sym there.role_is) here; second = tt; apart = tt }

unused_whole : (a : Sinks) → AreReportSinks a → AreWhole a
unused_whole a ready = go a.first a.second ready.report ready.alone
  where
    go : (u w : Option SinkView) → IsSomeAnd u (IsUnusedSink role.Report) → w ≡ None → AreWhole (record { first = u; second = w })
    go None w there none = absurd there
    go (Some x) (Some y) there none = cc
    go (Some x) None there none = record { first = there.none; second = tt }

pub no_text : (h : HostState) (a : Sinks) (name : List ℕ) → AreReportSinks a → Creates h role.Report name → ShowsText (seen_alone h a) role.Report []
no_text h a name ready made = record {
  same = λ told is.
      let f = sink_file h a.first a.second role.Report (report_sinks_made h a name ready made) told is in
      cond-true h.tells (text_at h a role.Report) [] told ∙ f.text
      ∙ ap (λ x. (h.role role.Report).written ++ x) (f.whole (unused_whole a ready)) ∙ append-nil (h.role role.Report).written ∙ made.written told;
}

-- ---- what putting the report leaves

pub writes_report : (h k : HostState) (a b : Sinks) (end : Option Fault) (name : List ℕ) → AreReportSinks a → Creates h role.Report name → IsLedAlone a b h k end → IsWriting h k role.Report
writes_report h k a b end name ready made led =
    let p = (led role.Report).streaming in
    let here = p.made role.Report (has_report a ready) in
    record {
      later = p.later;
      files = λ n other. p.files n (λ r is e. other (e ∙ ap (λ q. (h.role q).name) (is_report a ready r is)));
      roles = λ r other. p.roles r other (none r other (has_sink a r) refl);
      created = here.created made.created;
      name = here.name;
      source = here.opened;
    }
  where
    none : (r : Role) → (r ≡ role.Report → ⊥) → (b : _) → has_sink a r ≡ b → has_sink a r ≡ false
    none r other true e = absurd (other (is_report a ready r e))
    none r other false e = e

pub report_fault : (h k : HostState) (a b : Sinks) (result : Result (Unit {0}) Fault) → AreReportSinks a → IsLedAlone a b h k (fault_in result) → IfErr result (λ f. f ≡ fault.Write role.Report)
report_fault h k a b (Ok x) ready led = tt
report_fault h k a b (Err (fault.Read r)) ready led = let no : role.Schedule ≡ role.Order = sym (led role.Schedule).cause.0 ∙ (led role.Order).cause.0 in cc
report_fault h k a b (Err (fault.Write r)) ready led = ap fault.Write (is_report a ready r (led role.Report).cause.0)

pub report_rose : (h k : HostState) (a b : Sinks) (result : Result (Unit {0}) Fault) → AreReportSinks a → IsLedAlone a b h k (fault_in result) → OnErr result (RoseForAll h k role.Report)
report_rose h k a b (Ok x) ready led = tt
report_rose h k a b (Err (fault.Read r)) ready led = let cause = (led role.Report).cause in subst (RoseForAll h k) cause.0 cause.1
report_rose h k a b (Err (fault.Write r)) ready led = let cause = (led role.Report).cause in subst (RoseForAll h k) (is_report a ready r cause.0) cause.1

-- ---- what the file holds

pub front_held : (h k : HostState) (a b : Sinks) (text : List ℕ) → AreMade k b → PutsFront (seen_alone h a) (seen_alone k b) role.Report text → ShowsText (seen_alone h a) role.Report []
    → SinkHoldsFront k (has_sink b) role.Report text
front_held h k a b text made p none = front_holds k role.Report b role.Report text made (record { front = (front_shown p none).front })

pub text_held : (j k : HostState) (b c : Sinks) (text : List ℕ) → AreMade k c → AreWhole c → seen_alone k c ≡ seen_alone j b → ShowsText (seen_alone j b) role.Report text → SinkHolds k (has_sink c) role.Report text
text_held j k b c text made whole same shows =
    let now : ShowsText (seen_alone k c) role.Report text = subst (λ v. ShowsText v role.Report text) (sym same) shows in
    whole_holds k role.Report c role.Report text made whole (record { same = now.same })

-- the rest of the text wasn't written
pub unwritten_held : (j k : HostState) (b c : Sinks) (text : List ℕ) → AreMade k c → seen_alone k c ≡ seen_alone j b → ShowsText (seen_alone j b) role.Report text → SinkHoldsFront k (has_sink c) role.Report text
unwritten_held j k b c text made same shows =
    let now : ShowsText (seen_alone k c) role.Report text = subst (λ v. ShowsText v role.Report text) (sym same) shows in
    front_holds k role.Report c role.Report text made (record { front = (shown_front now).front })

-- under its name
pub report_file_is : (h k : HostState) (a b : Sinks) (end : Option Fault) (name text : List ℕ) → AreReportSinks a → Creates h role.Report name → IsLedAlone a b h k end → SinkHolds k (has_sink b) role.Report text
    → IsTrue h.tells → k.file name ≡ Some text
report_file_is h k a b end name text ready made led held told =
    let p = led role.Report in
    let here = p.streaming.made role.Report (has_report a ready) in
    let there : IsTrue (has_sink b role.Report) = subst (λ f. IsTrue (f role.Report)) (sym p.same) (has_report a ready) in
    ap k.file (sym (here.name ∙ made.name told)) ∙ held.file (subst IsTrue (sym p.streaming.later.tells) told) there

pub report_front_is : (g h k : HostState) (a b : Sinks) (end : Option Fault) (name text : List ℕ) → AreReportSinks a → Creates h role.Report name → IsLedAlone a b h k end → SinkHoldsFront k (has_sink b) role.Report text
    → IsTrue h.tells → CreatedHoldsFront g k role.Report text name
report_front_is g h k a b end name text ready made led held told =
    let p = led role.Report in
    let here = p.streaming.made role.Report (has_report a ready) in
    let there : IsTrue (has_sink b role.Report) = subst (λ f. IsTrue (f role.Report)) (sym p.same) (has_report a ready) in
    let now : IsTrue k.tells = subst IsTrue (sym p.streaming.later.tells) told in
    front_of (record {
      written = held.written;
      file = ap k.file (sym (here.name ∙ made.name told)) ∙ held.file now there;
      front = held.front now there;
    })
