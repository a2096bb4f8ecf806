-- What follows from the answers of `run`.
use Rattle.std.proofs.Common.{◌≡◌, ◌≢◌, ℕ, Bool, true, false, IsTrue, List, length, refl, sym, ◌∙◌, ap, subst, inl, inr, Result, Ok, Err}
use Rattle.std.specs.Prelude.{◌⊎◌, Option, Some, None, IfSome, is_some, nat_lt}
use Rattle.conda_host.specs.declared.outside.Role.{Role}
use Rattle.conda_host.specs.declared.outside.Role.TheVariants as role
use Rattle.conda_host.specs.State.{HostState, RoleState, is_created, KeepsOpened, KeepsCreated}
use Rattle.chip_config.specs.declared.fault.ConfigFault.{ConfigFault}
use Rattle.chip_config.specs.Settings.{Settings, configured}
use Rattle.elf_loader.specs.declared.fault.ImageFault.{ImageFault}
use Rattle.streams.specs.Using.{KeepsTo}
use Rattle.command_run.specs.Names.{all_files, text_files}
use Rattle.command_run.specs.Driving.{HoldsFrontAt, CreatedHoldsFront, bytes_of_file}
use Rattle.command_words.specs.Words.{Files, AreApart}
use Rattle.command_answers.specs.declared.status.Status.{Status}
use Rattle.command_answers.specs.declared.status.Status.TheVariants as status
use Rattle.command_answers.specs.Answers.{Answers, HasCause, Outcome, is_fault, uses_before}
use Rattle.command_answers.specs.Faults.{IsAnswer, IsComplete, IsFaultCaused}
use Rattle.conda_engine.specs.Files.{aim_of, run_names_of}
use Rattle.conda_engine.specs.Laws.{CreatesNoOther, IsAnswerCaused, HasStoppedAt, HoldsFronts, IsCompleteCommand, IsDoneWhole, IsDriveAnswer, IsDriveComplete, IsRunAnswer, IsRunComplete, KeepsOldReport, KeepsOtherFiles, MakesNothing, NeedsSchedule, OfDrive, OfEvery, OfRun, OnlyCounts, OpensNoOther, OpensNoSchedule}
use Rattle.conda_engine.specs.Leaves.{IsDone, IsStop, IsUnmade}
use Rattle.conda_engine.specs.Rows.{drive_command, outcome_of, run_command, run_creates, run_opens, text_of_role}
use Rattle.command_answers.specs.Verdict.{Aim, aim_of_schedule, after_config, after_image, config_limit, image_limit, design_of, design_said, refusal_of, settings_or_none, status_of_bytes, status_of_image, status_of_schedule, texts_of_events}
use Rattle.command_answers.proofs.AnswerFacts.{answers_after, complete, not_created}
use Rattle.conda_engine.proofs.CommandFacts.{drive_ends_run}
use Rattle.command_answers.proofs.ReadingFacts.{opens_none}
use Rattle.conda_engine.proofs.EndFacts.{all_at_done}

-- ---- of every command

pub is_complete : OfEvery IsCompleteCommand
is_complete k o a b answer h told none = complete k o a b answer h told none

pub creates_no_other : OfEvery CreatesNoOther
creates_no_other k o a b answer h r none old = not_created k o a b answer h r none old

pub opens_no_other : OfEvery OpensNoOther
opens_no_other k o a b answer h r none = h.keeps.opened r (ap is_some none)

-- ---- roles

role_whole : {a b : RoleState} → KeepsOpened a b → KeepsCreated a b → b ≡ a
role_whole {a = a} {b = b} p q =
    ap (λ x. record { opened = x; left = b.left; created = b.created; name = b.name; written = b.written }) p.opened
    ∙ ap (λ x. record { opened = a.opened; left = x; created = b.created; name = b.name; written = b.written }) p.left
    ∙ ap (λ x. record { opened = a.opened; left = a.left; created = x; name = b.name; written = b.written }) q.created
    ∙ ap (λ x. record { opened = a.opened; left = a.left; created = a.created; name = x; written = b.written }) q.name
    ∙ ap (λ x. record { opened = a.opened; left = a.left; created = a.created; name = a.name; written = x }) q.written

text_of_all : (files : Files) (r : Role) (n : List ℕ) → text_files (run_names_of files) r ≡ Some n → all_files (run_names_of files) r ≡ Some n
text_of_all files role.Order n e = e
text_of_all files role.Output n e = e
text_of_all files other n e = cc

-- the name of a file that is created by an answer
created_all : (files : Files) (answer : Status) (r : Role) (n : List ℕ) → run_creates files answer r ≡ Some n → all_files (run_names_of files) r ≡ Some n
created_all files status.Done r n e = e
created_all files (status.WriteFault role.Report) r n e = e
created_all files (status.WriteFault other) r n e = text_of_all files r n e
created_all files (status.ReadFault role.Schedule) r n e = text_of_all files r n e
created_all files (status.Schedule line why) r n e = text_of_all files r n e
created_all files (status.TooLarge role.Schedule limit) r n e = text_of_all files r n e
created_all files other r n e = cc

none_unmade : (files : Files) (answer : Status) → IsUnmade answer → (r : Role) → run_creates files answer r ≡ None
none_unmade files (status.Config f) un r = refl
none_unmade files (status.Image f) un r = refl
none_unmade files (status.TooLarge role.Config limit) un r = refl
none_unmade files (status.TooLarge role.Image limit) un r = refl
none_unmade files (status.TooLarge other limit) un r = absurd un
none_unmade files (status.ReadFault role.Config) un r = refl
none_unmade files (status.ReadFault role.Image) un r = refl
none_unmade files (status.ReadFault other) un r = absurd un
none_unmade files status.OutOfMemory un r = refl
none_unmade files other un r = absurd un

-- nor is the schedule opened
unread_unmade : (files : Files) (answer : Status) → IsUnmade answer → run_opens files answer role.Schedule ≡ None
unread_unmade files (status.Config f) un = refl
unread_unmade files (status.Image f) un = refl
unread_unmade files (status.TooLarge role.Config limit) un = refl
unread_unmade files (status.TooLarge role.Image limit) un = refl
unread_unmade files (status.TooLarge other limit) un = absurd un
unread_unmade files (status.ReadFault role.Config) un = refl
unread_unmade files (status.ReadFault role.Image) un = refl
unread_unmade files (status.ReadFault other) un = absurd un
unread_unmade files status.OutOfMemory un = refl
unread_unmade files other un = absurd un

stop_creates : (files : Files) (answer : Status) → IsStop answer → run_creates files answer ≡ text_files (run_names_of files)
stop_creates files (status.Schedule line why) st = refl
stop_creates files (status.TooLarge role.Schedule limit) st = refl
stop_creates files (status.TooLarge other limit) st = absurd st
stop_creates files other st = absurd st

-- the report is never opened
not_read : (files : Files) (answer : Status) → is_some (run_opens files answer role.Report) ≡ false
not_read files (status.ReadFault role.Config) = refl
not_read files (status.ReadFault role.Image) = refl
not_read files (status.ReadFault other) = refl
not_read files (status.TooLarge role.Config limit) = refl
not_read files (status.TooLarge role.Image limit) = refl
not_read files (status.TooLarge other limit) = refl
not_read files other = refl

stop_no_fault : (answer : Status) → IsStop answer → is_fault answer ≡ false
stop_no_fault (status.ReadFault r) st = absurd st
stop_no_fault (status.WriteFault r) st = absurd st
stop_no_fault other st = refl

-- ---- of every answer of `run` with an aim

abbrev OfAim : (Aim → Files → HostState → HostState → Status → Type 0) → Type 0
OfAim claim = (aim : Aim) (files : Files) (a b : HostState) (answer : Status) → Answers (run_command files) (outcome_of aim) a b answer → claim aim files a b answer

-- ---- answers

run_fault : (aim : Aim) (files : Files) (a b : HostState) (answer : Status) → HasCause (run_command files) (outcome_of aim) a b answer → IsFaultCaused files a b answer
run_fault aim files a b (status.ReadFault role.Config) h = h
run_fault aim files a b (status.ReadFault role.Image) h = h
run_fault aim files a b (status.ReadFault role.Schedule) h = h
run_fault aim files a b (status.ReadFault other) h = absurd h
run_fault aim files a b (status.WriteFault role.Order) h = h
run_fault aim files a b (status.WriteFault role.Report) h = h
run_fault aim files a b (status.WriteFault role.Output) h = h
run_fault aim files a b (status.WriteFault other) h = absurd h
run_fault aim files a b other h = tt

each_cause : OfAim IsAnswerCaused
each_cause aim files a b answer h = run_fault aim files a b answer h.cause

answer_of : (aim : Aim) (files : Files) (a b : HostState) (answer : Status) → HasCause (run_command files) (outcome_of aim) a b answer → IsRunAnswer aim files a b answer
answer_of aim files a b (status.ReadFault r) h = inr (inl (run_fault aim files a b (status.ReadFault r) h))
answer_of aim files a b (status.WriteFault r) h = inr (inl (run_fault aim files a b (status.WriteFault r) h))
answer_of aim files a b status.OutOfMemory h = inl refl
answer_of aim files a b other h = inr (inr h)

each_answer : OfAim IsRunAnswer
each_answer aim files a b answer h = answer_of aim files a b answer h.cause

complete_of : (aim : Aim) (files : Files) (a b : HostState) (answer : Status) → Answers (run_command files) (outcome_of aim) a b answer → HasCause (run_command files) (outcome_of aim) a b answer → IsRunComplete aim files a b answer
complete_of aim files a b status.OutOfMemory h cause = inl refl
complete_of aim files a b (status.ReadFault r) h cause = inr (λ told none. go (complete _ _ a b (status.ReadFault r) h told none))
  where
    go : (status.ReadFault r ≡ status.OutOfMemory) ⊎ (status.ReadFault r ≡ aim.verdict) → status.ReadFault r ≡ aim.verdict
    go (inl e) = cc
    go (inr e) = e
complete_of aim files a b (status.WriteFault r) h cause = inr (λ told none. go (complete _ _ a b (status.WriteFault r) h told none))
  where
    go : (status.WriteFault r ≡ status.OutOfMemory) ⊎ (status.WriteFault r ≡ aim.verdict) → status.WriteFault r ≡ aim.verdict
    go (inl e) = cc
    go (inr e) = e
complete_of aim files a b other h cause = inr (λ told none. cause told)

each_complete : OfAim IsRunComplete
each_complete aim files a b answer h = complete_of aim files a b answer h h.cause

-- ---- at Done every event ran

schedule_at_done : (config image schedule : List ℕ) → status_of_bytes config image schedule ≡ status.Done → status_of_schedule (design_said config image) schedule ≡ status.Done
schedule_at_done config image schedule e = first (nat_lt config_limit (length config)) refl
  where
    third : (config : Settings) (o : Option ImageFault) → after_image o (status_of_schedule (design_of config image) schedule) ≡ status.Done → status_of_schedule (design_of config image) schedule ≡ status.Done
    third config None h = h
    third config (Some f) h = cc

    image_step : (config : Settings) (t : Bool) → nat_lt image_limit (length image) ≡ t → status_of_image config image schedule ≡ status.Done → status_of_schedule (design_of config image) schedule ≡ status.Done
    image_step config true is h = let late = rw is at h in cc
    image_step config false is h = third config (refusal_of config image) (rw is at h)

    second : (c : Result Settings ConfigFault) → after_config c image schedule ≡ status.Done → status_of_schedule (design_of (settings_or_none c) image) schedule ≡ status.Done
    second (Ok config) h = image_step config (nat_lt image_limit (length image)) refl h
    second (Err f) h = cc

    first : (t : Bool) → nat_lt config_limit (length config) ≡ t → status_of_schedule (design_said config image) schedule ≡ status.Done
    first true is = let late = rw is at e in cc
    first false is = second (configured config) (rw is at e)

done_of : (aim : Aim) (files : Files) (a b : HostState) → (status.Done ≡ aim.verdict → aim.texts ≡ aim.whole)
    → Answers (run_command files) (outcome_of aim) a b status.Done → IsDone files a b aim.whole
done_of aim files a b whole h = record {
  order = λ told. (h.texts told refl).each role.Order files.order refl ∙ ap (λ t. Some t.order) (same told);
  report = λ told. (h.texts told refl).each role.Report files.report refl ∙ ap (λ t. Some t.report) (same told);
  output = λ told. go told files.output refl;
}
  where
    same : IsTrue a.tells → aim.texts ≡ aim.whole
    same told = whole (h.cause told)

    go : IsTrue a.tells → (w : Option (List ℕ)) → files.output ≡ w → IfSome w (λ name. b.file name ≡ Some aim.whole.output)
    go told None e = tt
    go told (Some name) e = (h.texts told refl).each role.Output name e ∙ ap (λ t. Some t.output) (same told)

each_done : (aim : Aim) (files : Files) (a b : HostState) (answer : Status) → (status.Done ≡ aim.verdict → aim.texts ≡ aim.whole)
    → Answers (run_command files) (outcome_of aim) a b answer → IsDoneWhole aim files a b answer
each_done aim files a b answer whole h e = done_of aim files a b whole (subst (Answers (run_command files) (outcome_of aim) a b) e h)

-- ---- after a stop

each_stopped : OfAim HasStoppedAt
each_stopped aim files a b answer h st = record {
  order = λ told. (h.texts told (stop_no_fault answer st)).each role.Order files.order (ap (λ f. f role.Order) (stop_creates files answer st));
  output = λ told. go told files.output refl;
  report = record { same = λ old. role_whole (h.keeps.opened role.Report (not_read files answer)) (h.keeps.kept role.Report (ap (λ f. f role.Report) (stop_creates files answer st)) (λ told is q same. let no : true ≡ false = sym is ∙ old in cc)) };
}
  where
    go : IsTrue a.tells → (w : Option (List ℕ)) → files.output ≡ w → IfSome w (λ name. b.file name ≡ Some aim.texts.output)
    go told None e = tt
    go told (Some name) e = (h.texts told (stop_no_fault answer st)).each role.Output name (ap (λ f. f role.Output) (stop_creates files answer st) ∙ e)

not_text : (files : Files) → AreApart files → (r : Role) → text_files (run_names_of files) r ≢ Some files.report
not_text files apart role.Order e = apart.order_report (let same : files.order ≡ files.report = cc in same)
not_text files apart role.Output e = go files.output apart.report_output e
  where
    go : (w : Option (List ℕ)) → IfSome w (λ n. files.report ≢ n) → w ≡ Some files.report → ⊥
    go None d e = cc
    go (Some n) d e = d (let same : n ≡ files.report = cc in sym same)
not_text files apart other e = cc

each_keeps_report : OfAim KeepsOldReport
each_keeps_report aim files a b answer h apart st told = h.keeps.files (inl told) files.report (λ r e. not_text files apart r (sym (ap (λ f. f r) (stop_creates files answer st)) ∙ e))

-- ---- fronts

front_of : (aim : Aim) (files : Files) (a b : HostState) (answer : Status) → Answers (run_command files) (outcome_of aim) a b answer → IsTrue a.tells → (r : Role) (name : List ℕ) → all_files (run_names_of files) r ≡ Some name
    → CreatedHoldsFront a b r (text_of_role aim.texts r) name
front_of aim files a b answer h told r name named = record { front = λ old is. made old is (run_creates files answer r) refl }
  where
    made : is_created a r ≡ false → IsTrue (is_created b r) → (w : Option (List ℕ)) → run_creates files answer r ≡ w → HoldsFrontAt b (text_of_role aim.texts r) name
    made old is None e = let no : true ≡ false = sym is ∙ not_created _ _ a b answer h r e old in cc
    made old is (Some n) e =
        let same : n ≡ name = (let one : Some n ≡ Some name = sym (created_all files answer r n e) ∙ named in cc) in
        subst (HoldsFrontAt b (text_of_role aim.texts r)) same ((h.fronts told).each r n e old is)

each_fronts : OfAim HoldsFronts
each_fronts aim files a b answer h = record {
  order = λ told. front_of aim files a b answer h told role.Order files.order refl;
  report = λ told. front_of aim files a b answer h told role.Report files.report refl;
  output = λ told. go told files.output refl;
}
  where
    go : IsTrue a.tells → (w : Option (List ℕ)) → files.output ≡ w → IfSome w (CreatedHoldsFront a b role.Output aim.texts.output)
    go told None e = tt
    go told (Some name) e = front_of aim files a b answer h told role.Output name e

-- ---- what stays

not_named : (files : Files) (n : List ℕ) → n ≢ files.order → n ≢ files.report → IfSome files.output (λ name. n ≢ name) → (r : Role) → all_files (run_names_of files) r ≢ Some n
not_named files n order report output role.Order e = order (let same : files.order ≡ n = cc in sym same)
not_named files n order report output role.Report e = report (let same : files.report ≡ n = cc in sym same)
not_named files n order report output role.Output e = go files.output output e
  where
    go : (w : Option (List ℕ)) → IfSome w (λ name. n ≢ name) → w ≡ Some n → ⊥
    go None d e = cc
    go (Some name) d e = d (let same : name ≡ n = cc in sym same)
not_named files n order report output other e = cc

each_others : OfAim KeepsOtherFiles
each_others aim files a b answer h = record {
  same = λ told n order report output. h.keeps.files (inl told) n (λ r e. not_named files n order report output r (created_all files answer r n e));
}

each_unmade : OfAim MakesNothing
each_unmade aim files a b answer h un =
    let none = none_unmade files answer un in
    record {
      files = λ n. h.keeps.files (inr none) n (λ r e. let no : None ≡ Some n = sym (none r) ∙ e in cc);
      roles = λ r. h.keeps.kept r (none r) (λ told is q e. let no : None ≡ Some (a.role r).name = sym (none q) ∙ e in cc);
    }

each_unread : OfAim OpensNoSchedule
each_unread aim files a b answer h un = h.keeps.opened role.Schedule (ap is_some (unread_unmade files answer un))

each_unopened : OfAim NeedsSchedule
each_unopened aim files a b answer h closed =
    let keeps : KeepsTo (uses_before (run_command files) answer) a b = h.first closed in
    record {
      files = λ n. keeps.files (inr (λ r. refl)) n (λ r e. let no : None ≡ Some n = e in cc);
      roles = λ r. keeps.kept r refl (λ told is q e. let no : None ≡ Some (a.role r).name = e in cc);
    }

-- ---- of `run`

of_run : {claim : Aim → Files → HostState → HostState → Status → Type 0} → OfAim claim → OfRun claim
of_run each o files a b answer h = each (aim_of o files a) files a b answer h

pub run_cause : OfRun IsAnswerCaused
run_cause = of_run each_cause

pub run_answer : OfRun IsRunAnswer
run_answer = of_run each_answer

pub run_complete : OfRun IsRunComplete
run_complete = of_run each_complete

pub run_done : OfRun IsDoneWhole
run_done o files a b answer h = each_done (aim_of o files a) files a b answer whole h
  where
    whole : status.Done ≡ (aim_of o files a).verdict → (aim_of o files a).texts ≡ (aim_of o files a).whole
    whole e =
        let d = design_said (bytes_of_file a files.config) (bytes_of_file a files.image) in
        let schedule : List ℕ = bytes_of_file a files.schedule in
        ap (texts_of_events o d) (all_at_done d schedule (schedule_at_done (bytes_of_file a files.config) (bytes_of_file a files.image) schedule (sym e)))

pub run_stopped : OfRun HasStoppedAt
run_stopped = of_run each_stopped

pub run_fronts : OfRun HoldsFronts
run_fronts = of_run each_fronts

pub run_others : OfRun KeepsOtherFiles
run_others = of_run each_others

pub run_unmade : OfRun MakesNothing
run_unmade = of_run each_unmade

pub run_unread : OfRun OpensNoSchedule
run_unread = of_run each_unread

pub run_unopened : OfRun NeedsSchedule
run_unopened = of_run each_unopened

pub run_keeps_report : OfRun KeepsOldReport
run_keeps_report = of_run each_keeps_report

-- ---- of `drive`: its answers are answers of `run` before which nothing was opened

as_run : (o : Outcome) (files : Files) (a b : HostState) (answer : Status) → Answers (drive_command files) o a b answer → Answers (run_command files) o a b answer
as_run o files a b answer h = answers_after (drive_command files) (run_command files) (λ r. false) o o a a b answer (drive_ends_run files) (λ r e. refl) (opens_none a) (λ told. refl) h

of_drive : {claim : Aim → Files → HostState → HostState → Status → Type 0} → OfAim claim → OfDrive claim
of_drive each o s files a b answer h =
    let aim = aim_of_schedule o s (bytes_of_file a files.schedule) in
    each aim files a b answer (as_run (outcome_of aim) files a b answer h)

pub drive_cause : OfDrive IsAnswerCaused
drive_cause = of_drive each_cause

-- memory isn't taken
takes_none : (o : Outcome) (files : Files) (a b : HostState) (answer : Status) {A : Type 0} → Answers (drive_command files) o a b answer → answer ≡ status.OutOfMemory → A
takes_none o files a b answer h e = let no : false ≡ true = subst (HasCause (drive_command files) o a b) e h.cause in cc

pub drive_answer : OfDrive IsDriveAnswer
drive_answer o s files a b answer h = go (of_drive each_answer o s files a b answer h)
  where
    go : (answer ≡ status.OutOfMemory) ⊎ IsAnswer files a b (aim_of_schedule o s (bytes_of_file a files.schedule)).verdict answer → IsAnswer files a b (aim_of_schedule o s (bytes_of_file a files.schedule)).verdict answer
    go (inl e) = takes_none _ files a b answer h e
    go (inr e) = e

pub drive_complete : OfDrive IsDriveComplete
drive_complete o s files a b answer h = go (of_drive each_complete o s files a b answer h)
  where
    go : (answer ≡ status.OutOfMemory) ⊎ IsComplete a b (aim_of_schedule o s (bytes_of_file a files.schedule)).verdict answer → IsComplete a b (aim_of_schedule o s (bytes_of_file a files.schedule)).verdict answer
    go (inl e) = takes_none _ files a b answer h e
    go (inr e) = e

pub drive_later : OfDrive OnlyCounts
drive_later o s files a b answer h = h.keeps.later

pub drive_done : OfDrive IsDoneWhole
drive_done o d files a b answer h =
    let schedule : List ℕ = bytes_of_file a files.schedule in
    let aim = aim_of_schedule o d schedule in
    each_done aim files a b answer (λ e. ap (texts_of_events o d) (all_at_done d schedule (sym e))) (as_run (outcome_of aim) files a b answer h)

pub drive_stopped : OfDrive HasStoppedAt
drive_stopped = of_drive each_stopped

pub drive_fronts : OfDrive HoldsFronts
drive_fronts = of_drive each_fronts

pub drive_others : OfDrive KeepsOtherFiles
drive_others = of_drive each_others

pub drive_unopened : OfDrive NeedsSchedule
drive_unopened = of_drive each_unopened

pub drive_keeps_report : OfDrive KeepsOldReport
drive_keeps_report = of_drive each_keeps_report
