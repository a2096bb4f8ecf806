-- What a machine's run answers and leaves, from where its schedule is opened.
use Rattle.std.proofs.Common.{◌≡◌, ℕ, true, false, IsTrue, List, [], length, Result, Ok, Err, OnErr, append-nil, refl, sym, ◌∙◌, ap, subst, inl, inr}
use Rattle.std.specs.Prelude.{Option, Some, None, IfSome, IfErr, is_some}
use Rattle.conda_base.specs.declared.actor.Actor.{Actor}
use Rattle.conda_host.specs.declared.outside.Role.{Role}
use Rattle.conda_host.specs.declared.outside.Role.TheVariants as role
use Rattle.conda_host.specs.State.{HostState, is_created}
use Rattle.schedule_log.specs.Verdict.{Verdict, Fine, BadLine, TooLarge, good, schedule_verdict}
use Rattle.schedule_log.proofs.LawLemmas.{fine_runs_every}
use Rattle.chip_laws.specs.Design.{Design}
use Rattle.run_report.specs.View.{View}
use Rattle.run_report.specs.Texts.{report_text}
use Rattle.streams.specs.declared.fault.Fault.{Fault}
use Rattle.streams.specs.declared.fault.Fault.TheVariants as fault
use Rattle.streams.specs.Using.{KeepsTo}
use Rattle.streams.proofs.UsingFacts.{keeps_more}
use Rattle.machine_run.specs.declared.machine.Machine.{Ghosts}
use Rattle.machine_run.specs.declared.run.Run.{Run}
use Rattle.machine_run.specs.declared.ending.Ending.{Ending}
use Rattle.machine_run.specs.declared.ending.Ending.TheVariants as Ending_is
use Rattle.command_run.specs.Names.{Names, CreatesOnceOpened, FaultRose, opened_by, all_files, text_files, text_uses, all_uses, run_uses}
use Rattle.command_run.specs.Driving.{LeavesFiles, CreatedHoldsFront, CreatedHoldFronts, HasRunTexts, HasRunEvents, HoldTexts, HoldsFrontAt, TextFronts, bytes_of_file}
use Rattle.command_words.specs.Words.{Files}
use Rattle.command_answers.specs.declared.status.Status.{Status}
use Rattle.command_answers.specs.declared.status.Status.TheVariants as status
use Rattle.command_answers.specs.Answers.{Answers, opened_at, uses_before}
use Rattle.conda_engine.specs.Ends.{IsLate, StandsAfter, account_of, events_until}
use Rattle.conda_engine.specs.Files.{run_names_of}
use Rattle.conda_engine.specs.Rows.{drive_command, drive_opens, run_opens, schedule_outcome, text_of_role, status_of_run}
use Rattle.command_answers.specs.Verdict.{Account, Texts, all_events, events_that_run, status_of_schedule, status_of_verdict, texts_of_events}

-- what a machine shows that stands for events is their report
pub record ShowsReport {A : Type 0} (m : Ghosts A) (shown : A → View) (report : Design → List Actor → List ℕ) : Type 0 where
  pub same : (d : Design) (c : A) (events : List Actor) → m.stands d c events → report_text (shown c) (length events) (length (m.output d events)) ≡ report d events

-- the texts of the events of a schedule that run
abbrev pub good_texts : Account → Design → List ℕ → Texts
good_texts a d bytes = texts_of_events a d (good d.config.harts d.config.cores bytes)

-- ---- at Done every event ran

fine_at_done : (v : Verdict) → status_of_verdict v ≡ status.Done → v ≡ Fine
fine_at_done Fine h = refl
fine_at_done (BadLine line why) h = cc
fine_at_done (TooLarge limit) h = cc

pub all_at_done : (d : Design) (schedule : List ℕ) → status_of_schedule d schedule ≡ status.Done → events_that_run d schedule ≡ all_events d schedule
all_at_done d schedule h = fine_runs_every d.config.harts d.config.cores schedule (fine_at_done (schedule_verdict d.config.harts d.config.cores schedule) h)

stands_at_end : {A : Type 0} (m : Ghosts A) (d : Design) (schedule : List ℕ) (answer : Status) (machine : A) → answer ≡ status_of_schedule d schedule
    → m.stands d machine (events_that_run d schedule) → m.stands d machine (events_until answer d schedule)
stands_at_end m d schedule status.Done machine verdict h = subst (m.stands d machine) (all_at_done d schedule (sym verdict)) h
stands_at_end m d schedule other machine verdict h = h

-- ---- the report of a run is that of its events

report_of_ran : {A : Type 0} (m : Ghosts A) (shown : A → View) (report : Design → List Actor → List ℕ) → ShowsReport m shown report → (d : Design) (bytes : List ℕ) (run : Run A) → HasRunEvents m d bytes run
    → report_text (shown run.machine) run.events run.output_bytes ≡ report d (good d.config.harts d.config.cores bytes)
report_of_ran m shown report shows d bytes run r =
    let events : List Actor = good d.config.harts d.config.cores bytes in
    ap (λ n. report_text (shown run.machine) n run.output_bytes) r.count
    ∙ ap (λ n. report_text (shown run.machine) (length events) n) r.bytes_out
    ∙ shows.same d run.machine events r.stands

events_of : {A : Type 0} {m : Ghosts A} {names : Names} {d : Design} {bytes : List ℕ} {h : HostState} {run : Run A} {ending : Ending} → HasRunTexts m names d bytes h run ending → HasRunEvents m d bytes run
events_of r = record { stands = r.stands; count = r.count; bytes_out = r.bytes_out }

-- ---- each file that is created, by its role

whole_front : {h : HostState} (text : List ℕ) {name : List ℕ} → h.file name ≡ Some text → HoldsFrontAt h text name
whole_front text e = record { written = text; file = e; front = record { rest = []; same = sym (append-nil text) } }

at_name : (P : List ℕ → Type 0) {n k : List ℕ} → Some n ≡ Some k → P n → P k
at_name P {n = n} {k = k} e h = let same : n ≡ k = cc in subst P same h

at_output : (P : List ℕ → Type 0) (o : Option (List ℕ)) {k : List ℕ} → o ≡ Some k → IfSome o P → P k
at_output P None e h = cc
at_output P (Some n) e h = at_name P e h

text_each : (files : Files) (h : HostState) (t : Texts) → HoldTexts (run_names_of files) h t.order t.output → (r : Role) (n : List ℕ) → text_files (run_names_of files) r ≡ Some n → h.file n ≡ Some (text_of_role t r)
text_each files h t held role.Order n e = at_name (λ x. h.file x ≡ Some t.order) e held.order
text_each files h t held role.Output n e = at_output (λ x. h.file x ≡ Some t.output) files.output e held.output
text_each files h t held other n e = cc

all_each : (files : Files) (h : HostState) (t : Texts) → HoldTexts (run_names_of files) h t.order t.output → h.file files.report ≡ Some t.report
    → (r : Role) (n : List ℕ) → all_files (run_names_of files) r ≡ Some n → h.file n ≡ Some (text_of_role t r)
all_each files h t held report role.Order n e = at_name (λ x. h.file x ≡ Some t.order) e held.order
all_each files h t held report role.Output n e = at_output (λ x. h.file x ≡ Some t.output) files.output e held.output
all_each files h t held report role.Report n e = at_name (λ x. h.file x ≡ Some t.report) e report
all_each files h t held report other n e = cc

front_each : (files : Files) (a b : HostState) (t : Texts) → TextFronts (run_names_of files) a b t.order t.output
    → (r : Role) (n : List ℕ) → text_files (run_names_of files) r ≡ Some n → is_created a r ≡ false → IsTrue (is_created b r) → HoldsFrontAt b (text_of_role t r) n
front_each files a b t f role.Order n e old is = at_name (HoldsFrontAt b t.order) e (f.order.front old is)
front_each files a b t f role.Output n e old is = (at_output (λ x. is_created a role.Output ≡ false → IsTrue (is_created b role.Output) → HoldsFrontAt b t.output x) files.output e (each files.output f.output)) old is
  where
    each : (o : Option (List ℕ)) → IfSome o (λ x. CreatedHoldsFront a b role.Output t.output x) → IfSome o (λ x. is_created a role.Output ≡ false → IsTrue (is_created b role.Output) → HoldsFrontAt b t.output x)
    each None h = tt
    each (Some x) h = h.front
front_each files a b t f other n e old is = cc

-- ---- what is used

fewer_opened : (files : Files) (answer : Status) → run_opens files answer role.Schedule ≡ Some files.schedule → (r : Role) → is_some (drive_opens files answer r) ≡ false → opened_by r ≡ false
fewer_opened files answer is role.Schedule e = let no : true ≡ false = sym (ap is_some is) ∙ e in cc
fewer_opened files answer is other e = refl

text_keeps : (files : Files) (answer : Status) (a b : HostState) → run_opens files answer role.Schedule ≡ Some files.schedule → KeepsTo (text_uses (run_names_of files)) a b
    → KeepsTo (record { opens = opened_at (drive_command files) answer; creates = text_files (run_names_of files) }) a b
text_keeps files answer a b is p = keeps_more (fewer_opened files answer is) (λ r e. e) (λ r n e. e) p

all_keeps : (files : Files) (answer : Status) (a b : HostState) → run_opens files answer role.Schedule ≡ Some files.schedule → KeepsTo (all_uses (run_names_of files)) a b
    → KeepsTo (record { opens = opened_at (drive_command files) answer; creates = all_files (run_names_of files) }) a b
all_keeps files answer a b is p = keeps_more (fewer_opened files answer is) (λ r e. e) (λ r n e. e) p

first_keeps : (files : Files) (answer : Status) (a b : HostState) → run_opens files answer role.Schedule ≡ Some files.schedule → CreatesOnceOpened a b → (b.role role.Schedule).opened ≡ false
    → KeepsTo (uses_before (drive_command files) answer) a b
first_keeps files answer a b is once closed = keeps_more (fewer_opened files answer is) (λ r e. refl) (λ r n e. let no : None ≡ Some n = e in cc) (once closed)

-- ---- the answers

pub drive_answers : {A : Type 0} (m : Ghosts A) (shown : A → View) (report : Design → List Actor → List ℕ) → ShowsReport m shown report → (files : Files) (d : Design) (bytes : List ℕ) (a b : HostState) (run : Run A) (ran : Result Ending Fault)
    → (IsTrue a.tells → LeavesFiles m shown (run_names_of files) d bytes b run ran)
    → OnErr ran (IsTrue a.tells → CreatedHoldFronts m shown (run_names_of files) d bytes a b run)
    → IfErr ran (FaultRose (run_names_of files) a b)
    → CreatesOnceOpened a b
    → KeepsTo (run_uses (run_names_of files) ran) a b
    → Answers (drive_command files) (schedule_outcome (account_of m report) d bytes) a b (status_of_run ran)
drive_answers m shown report shows files d bytes a b run (Ok Ending_is.Whole) ends fronts cause once keeps = record {
  cause = λ told. ap status_of_verdict ((ends told).0.verdict);
  keeps = all_keeps files (status_of_run (Ok Ending_is.Whole)) a b refl keeps;
  first = first_keeps files (status_of_run (Ok Ending_is.Whole)) a b refl once;
  texts = λ told no_fault. record { each = held told };
  fronts = λ told. record { each = λ r n e old is. whole_front _ (held told r n e) };
}
  where
    held : IsTrue a.tells → (r : Role) (n : List ℕ) → all_files (run_names_of files) r ≡ Some n → b.file n ≡ Some (text_of_role (good_texts (account_of m report) d bytes) r)
    held told = all_each files b (good_texts (account_of m report) d bytes) (ends told).0.texts
        ((ends told).1 ∙ ap Some (report_of_ran m shown report shows d bytes run (events_of (ends told).0)))
drive_answers m shown report shows files d bytes a b run (Ok (Ending_is.BadLine line why)) ends fronts cause once keeps = record {
  cause = λ told. ap status_of_verdict ((ends told).verdict);
  keeps = text_keeps files (status_of_run (Ok (Ending_is.BadLine line why))) a b refl keeps;
  first = first_keeps files (status_of_run (Ok (Ending_is.BadLine line why))) a b refl once;
  texts = λ told no_fault. record { each = held told };
  fronts = λ told. record { each = λ r n e old is. whole_front _ (held told r n e) };
}
  where
    held : IsTrue a.tells → (r : Role) (n : List ℕ) → text_files (run_names_of files) r ≡ Some n → b.file n ≡ Some (text_of_role (good_texts (account_of m report) d bytes) r)
    held told = text_each files b (good_texts (account_of m report) d bytes) (ends told).texts
drive_answers m shown report shows files d bytes a b run (Ok Ending_is.TooManyEvents) ends fronts cause once keeps = record {
  cause = λ told. ap status_of_verdict ((ends told).verdict);
  keeps = text_keeps files (status_of_run (Ok Ending_is.TooManyEvents)) a b refl keeps;
  first = first_keeps files (status_of_run (Ok Ending_is.TooManyEvents)) a b refl once;
  texts = λ told no_fault. record { each = held told };
  fronts = λ told. record { each = λ r n e old is. whole_front _ (held told r n e) };
}
  where
    held : IsTrue a.tells → (r : Role) (n : List ℕ) → text_files (run_names_of files) r ≡ Some n → b.file n ≡ Some (text_of_role (good_texts (account_of m report) d bytes) r)
    held told = text_each files b (good_texts (account_of m report) d bytes) (ends told).texts
drive_answers m shown report shows files d bytes a b run (Ok Ending_is.TooManyBytes) ends fronts cause once keeps = record {
  cause = λ told. ap status_of_verdict ((ends told).verdict);
  keeps = text_keeps files (status_of_run (Ok Ending_is.TooManyBytes)) a b refl keeps;
  first = first_keeps files (status_of_run (Ok Ending_is.TooManyBytes)) a b refl once;
  texts = λ told no_fault. record { each = held told };
  fronts = λ told. record { each = λ r n e old is. whole_front _ (held told r n e) };
}
  where
    held : IsTrue a.tells → (r : Role) (n : List ℕ) → text_files (run_names_of files) r ≡ Some n → b.file n ≡ Some (text_of_role (good_texts (account_of m report) d bytes) r)
    held told = text_each files b (good_texts (account_of m report) d bytes) (ends told).texts
drive_answers m shown report shows files d bytes a b run (Err (fault.Read role.Schedule)) ends fronts cause once keeps = record {
  cause = cause;
  keeps = text_keeps files (status_of_run (Err (fault.Read role.Schedule))) a b refl keeps;
  first = first_keeps files (status_of_run (Err (fault.Read role.Schedule))) a b refl once;
  texts = λ told no_fault. let no : true ≡ false = no_fault in cc;
  fronts = λ told. record { each = front_each files a b (good_texts (account_of m report) d bytes) (fronts told).texts };
}
drive_answers m shown report shows files d bytes a b run (Err (fault.Read other)) ends fronts cause once keeps = absurd cause
drive_answers m shown report shows files d bytes a b run (Err (fault.Write role.Order)) ends fronts cause once keeps = record {
  cause = cause;
  keeps = text_keeps files (status_of_run (Err (fault.Write role.Order))) a b refl keeps;
  first = first_keeps files (status_of_run (Err (fault.Write role.Order))) a b refl once;
  texts = λ told no_fault. let no : true ≡ false = no_fault in cc;
  fronts = λ told. record { each = front_each files a b (good_texts (account_of m report) d bytes) (fronts told).texts };
}
drive_answers m shown report shows files d bytes a b run (Err (fault.Write role.Output)) ends fronts cause once keeps = record {
  cause = cause;
  keeps = text_keeps files (status_of_run (Err (fault.Write role.Output))) a b refl keeps;
  first = first_keeps files (status_of_run (Err (fault.Write role.Output))) a b refl once;
  texts = λ told no_fault. let no : true ≡ false = no_fault in cc;
  fronts = λ told. record { each = front_each files a b (good_texts (account_of m report) d bytes) (fronts told).texts };
}
drive_answers m shown report shows files d bytes a b run (Err (fault.Write role.Report)) ends fronts cause once keeps = record {
  cause = cause;
  keeps = all_keeps files (status_of_run (Err (fault.Write role.Report))) a b refl keeps;
  first = first_keeps files (status_of_run (Err (fault.Write role.Report))) a b refl once;
  texts = λ told no_fault. let no : true ≡ false = no_fault in cc;
  fronts = λ told. record { each = each told };
}
  where
    each : IsTrue a.tells → (r : Role) (n : List ℕ) → all_files (run_names_of files) r ≡ Some n → is_created a r ≡ false → IsTrue (is_created b r) → HoldsFrontAt b (text_of_role (good_texts (account_of m report) d bytes) r) n
    each told role.Order n e old is = front_each files a b (good_texts (account_of m report) d bytes) (fronts told).texts role.Order n e old is
    each told role.Output n e old is = front_each files a b (good_texts (account_of m report) d bytes) (fronts told).texts role.Output n e old is
    each told role.Report n e old is =
        at_name (HoldsFrontAt b (good_texts (account_of m report) d bytes).report) e
        (subst (λ t. HoldsFrontAt b t files.report) (report_of_ran m shown report shows d bytes run ((fronts told).ran old is)) ((fronts told).report.front old is))
    each told other n e old is = cc
drive_answers m shown report shows files d bytes a b run (Err (fault.Write other)) ends fronts cause once keeps = absurd cause

pub drive_late : (names : Names) (a b : HostState) (ran : Result Ending Fault) → IfErr ran (FaultRose names a b) → IsLate (status_of_run ran)
drive_late names a b (Ok Ending_is.Whole) cause = tt
drive_late names a b (Ok (Ending_is.BadLine line why)) cause = tt
drive_late names a b (Ok Ending_is.TooManyEvents) cause = inl refl
drive_late names a b (Ok Ending_is.TooManyBytes) cause = inr refl
drive_late names a b (Err (fault.Read role.Schedule)) cause = tt
drive_late names a b (Err (fault.Read other)) cause = absurd cause
drive_late names a b (Err (fault.Write role.Order)) cause = tt
drive_late names a b (Err (fault.Write role.Report)) cause = tt
drive_late names a b (Err (fault.Write role.Output)) cause = tt
drive_late names a b (Err (fault.Write other)) cause = absurd cause

-- ---- the machine

ran_stands : {A : Type 0} (m : Ghosts A) (names : Names) (d : Design) (bytes : List ℕ) (b : HostState) (run : Run A) (ending : Ending)
    → HasRunTexts m names d bytes b run ending → m.stands d run.machine (events_until (status_of_run (Ok ending)) d bytes)
ran_stands m names d bytes b run ending r = stands_at_end m d bytes (status_of_run (Ok ending)) run.machine (ap status_of_verdict r.verdict) r.stands

pub drive_stands : {A : Type 0} (m : Ghosts A) (shown : A → View) (names : Names) (d : Design) (bytes : List ℕ) (a b : HostState) (run : Run A) (ran : Result Ending Fault)
    → (IsTrue a.tells → LeavesFiles m shown names d bytes b run ran) → StandsAfter m d a bytes (status_of_run ran) run.machine
drive_stands m shown names d bytes a b run (Ok Ending_is.Whole) ends = λ told end. ran_stands m names d bytes b run Ending_is.Whole (ends told).0
drive_stands m shown names d bytes a b run (Ok (Ending_is.BadLine line why)) ends = λ told end. ran_stands m names d bytes b run (Ending_is.BadLine line why) (ends told)
drive_stands m shown names d bytes a b run (Ok Ending_is.TooManyEvents) ends = λ told end. ran_stands m names d bytes b run Ending_is.TooManyEvents (ends told)
drive_stands m shown names d bytes a b run (Ok Ending_is.TooManyBytes) ends = λ told end. ran_stands m names d bytes b run Ending_is.TooManyBytes (ends told)
drive_stands m shown names d bytes a b run (Err (fault.Read r)) ends = λ told end. absurd end
drive_stands m shown names d bytes a b run (Err (fault.Write r)) ends = λ told end. absurd end

-- ---- under the names that are handed on

pub answers_named : {A : Type 0} (m : Ghosts A) (shown : A → View) (report : Design → List Actor → List ℕ) → ShowsReport m shown report
    → (names : Names) (files : Files) (d : Design) (a b : HostState) (run : Run A) (ran : Result Ending Fault) → names ≡ run_names_of files
    → (IsTrue a.tells → LeavesFiles m shown names d (bytes_of_file a names.schedule) b run ran)
    → OnErr ran (IsTrue a.tells → CreatedHoldFronts m shown names d (bytes_of_file a names.schedule) a b run)
    → IfErr ran (FaultRose names a b)
    → CreatesOnceOpened a b
    → KeepsTo (run_uses names ran) a b
    → Answers (drive_command files) (schedule_outcome (account_of m report) d (bytes_of_file a files.schedule)) a b (status_of_run ran)
answers_named m shown report shows names files d a b run ran same ends fronts cause once keeps =
    drive_answers m shown report shows files d (bytes_of_file a files.schedule) a b run ran
    (subst (λ n. IsTrue a.tells → LeavesFiles m shown n d (bytes_of_file a n.schedule) b run ran) same ends)
    (subst (λ n. OnErr ran (IsTrue a.tells → CreatedHoldFronts m shown n d (bytes_of_file a n.schedule) a b run)) same fronts)
    (subst (λ n. IfErr ran (FaultRose n a b)) same cause)
    once
    (subst (λ n. KeepsTo (run_uses n ran) a b) same keeps)

pub stands_named : {A : Type 0} (m : Ghosts A) (shown : A → View) (names : Names) (files : Files) (d : Design) (a b : HostState) (run : Run A) (ran : Result Ending Fault) → names ≡ run_names_of files
    → (IsTrue a.tells → LeavesFiles m shown names d (bytes_of_file a names.schedule) b run ran)
    → StandsAfter m d a (bytes_of_file a files.schedule) (status_of_run ran) run.machine
stands_named m shown names files d a b run ran same ends =
    subst (λ n. StandsAfter m d a (bytes_of_file a n.schedule) (status_of_run ran) run.machine) same (drive_stands m shown names d (bytes_of_file a names.schedule) a b run ran ends)
