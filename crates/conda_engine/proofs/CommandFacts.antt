-- The command `run`, from its words to its files.
use Rattle.std.proofs.Common.{◌≡◌, ℕ, false, List, [], IsTrue, refl, sym, ◌∙◌, ap, subst, inl, inr}
use Rattle.std.specs.Prelude.{◌⊎◌, Option, Some, None, IfSome, is_some, unwrap_or}
use Rattle.conda_host.specs.declared.outside.Role.{Role}
use Rattle.conda_host.specs.declared.outside.Role.TheVariants as role
use Rattle.conda_host.specs.State.{HostState}
use Rattle.chip_config.specs.Settings.{Settings, configured, settings}
use Rattle.chip_laws.specs.Design.{design_for}
use Rattle.command_words.specs.Words.{Files}
use Rattle.command_answers.specs.declared.status.Status.{Status}
use Rattle.command_answers.specs.declared.status.Status.TheVariants as status
use Rattle.command_run.specs.Driving.{bytes_of_file}
use Rattle.conda_engine.specs.Ends.{IsLate}
use Rattle.command_answers.specs.Faults.{IsAnswer, IsFaultCaused}
use Rattle.conda_engine.specs.Files.{aim_of}
use Rattle.command_answers.specs.Preparing.{IsEarly, IsReadyFor, IsUnready, OnlyOpens, PreparedView, is_config, is_first, design_in, unready_opens}
use Rattle.command_answers.specs.Verdict.{Account, aim_of_schedule, aim_with, design_of, design_said, settings_or_none, status_of_bytes, status_of_image, status_of_schedule}
use Rattle.conda_engine.proofs.PrepareFacts.{verdict_of_image, verdict_of_schedule}
use Rattle.command_answers.specs.Answers.{Answers, HasCause}
use Rattle.conda_engine.specs.Rows.{config_file, drive_command, drive_opens, first_files, outcome_of, read_files, run_command, run_creates, run_opens, run_outcome, schedule_outcome}
use Rattle.command_answers.proofs.AnswerFacts.{IsEndOf, answers_after, answers_early}

read_first : (files : Files) (r : Role) → is_some (read_files files r) ≡ false → is_first r ≡ false
read_first files role.Config e = e
read_first files role.Image e = e
read_first files other e = refl

-- a run that came to its schedule has opened configuration and image
first_opened : (files : Files) (answer : Status) → IsLate answer → (r : Role) → is_some (run_opens files answer r) ≡ false → is_first r ≡ false
first_opened files status.Done late r e = read_first files r e
first_opened files (status.ReadFault role.Schedule) late r e = read_first files r e
first_opened files (status.ReadFault other) late r e = absurd late
first_opened files (status.WriteFault q) late r e = read_first files r e
first_opened files (status.Schedule line why) late r e = read_first files r e
first_opened files (status.TooLarge role.Schedule limit) late r e = read_first files r e
first_opened files (status.TooLarge other limit) late r e = absurd late
first_opened files other late r e = absurd late

pub drive_ends_run : (files : Files) → IsEndOf (drive_command files) (run_command files)
drive_ends_run files = record { opens = opens; creates = refl; first = refl; memory = refl }
  where
    opens : (answer : Status) (r : Role) (n : List ℕ) → drive_opens files answer r ≡ Some n → run_opens files answer r ≡ Some n
    opens answer role.Schedule n e = e
    opens answer other n e = cc

-- ---- the design of configuration and image

pub design_same : (files : Files) (a : HostState) (p : PreparedView) (h : IsReadyFor files a p) → IsTrue a.tells
    → design_of (settings p.config) h.image.bytes ≡ design_said (bytes_of_file a files.config) (bytes_of_file a files.image)
design_same files a p h tells =
    ap (λ c. design_of c h.image.bytes) (sym (ap settings_or_none (ap configured (h.config.held.bytes_are tells) ∙ h.config.said)))
    ∙ ap (design_said (bytes_of_file a files.config)) (sym (h.image.held.bytes_are tells))

-- ---- the aim of a schedule on the chip that configuration and image say is that of all three

aim_same : (o : Account) (files : Files) (a b : HostState) (p : PreparedView) (h : IsReadyFor files a p) → OnlyOpens is_first a b → IsTrue a.tells
    → aim_of_schedule o (design_of (settings p.config) h.image.bytes) (bytes_of_file b files.schedule) ≡ aim_of o files a
aim_same o files a b p h r tells =
    let config : Settings = settings p.config in
    let image : List ℕ = h.image.bytes in
    let schedule : List ℕ = bytes_of_file b files.schedule in
    let shown : image ≡ bytes_of_file a files.image = sym (h.image.held.bytes_are tells) in
    let told : schedule ≡ bytes_of_file a files.schedule = ap (λ f. unwrap_or f []) (r.files files.schedule) in
    let verdict : status_of_schedule (design_of config image) schedule ≡ status_of_bytes (bytes_of_file a files.config) (bytes_of_file a files.image) (bytes_of_file a files.schedule) =
    sym (verdict_of_schedule config image schedule h.image.held.within h.image.accepted)
    ∙ ap (λ i. status_of_image config i schedule) shown
    ∙ sym (verdict_of_image a files.config config (bytes_of_file a files.image) schedule h.config tells)
    ∙ ap (status_of_bytes (bytes_of_file a files.config) (bytes_of_file a files.image)) told in
    ap (λ v. aim_with o v (design_of config image) schedule) verdict
    ∙ ap (λ d. aim_with o (aim_of o files a).verdict d schedule) (design_same files a p h tells)
    ∙ ap (aim_with o (aim_of o files a).verdict (design_said (bytes_of_file a files.config) (bytes_of_file a files.image))) told

-- ---- a run that was made ready and driven

run_answers : (o : Account) (files : Files) (a b c : HostState) (p : PreparedView) (answer : Status) → IsLate answer → IsReadyFor files a p → OnlyOpens is_first a b
    → Answers (drive_command p.files) (schedule_outcome o (design_in p) (bytes_of_file b p.files.schedule)) b c answer → Answers (run_command files) (run_outcome o files a) a c answer
run_answers o files a b c p answer late h r answers =
    answers_after (drive_command files) (run_command files) is_first (schedule_outcome o (design_in p) (bytes_of_file b files.schedule)) (run_outcome o files a) a b c answer
    (drive_ends_run files) (first_opened files answer late) r
    (λ tells. ap outcome_of (ap (λ image. aim_of_schedule o (design_for p.config image) (bytes_of_file b files.schedule)) h.image.loaded ∙ aim_same o files a b p h r tells))
    (subst (λ f. Answers (drive_command f) (schedule_outcome o (design_in p) (bytes_of_file b f.schedule)) b c answer) h.named answers)

pub answers_for : (o : Account) (w : Option Files) (a b c : HostState) (p : PreparedView) (answer : Status) → IsLate answer → IfSome w (λ files. IsReadyFor files a p) → OnlyOpens is_first a b
    → Answers (drive_command p.files) (schedule_outcome o (design_in p) (bytes_of_file b p.files.schedule)) b c answer → IfSome w (λ files. Answers (run_command files) (run_outcome o files a) a c answer)
answers_for o None a b c p answer late h r answers = tt
answers_for o (Some files) a b c p answer late h r answers = run_answers o files a b c p answer late h r answers

-- ---- a run that wasn't made ready

unready_cause : (o : Account) (files : Files) (a c : HostState) (answer : Status) → IsEarly answer → IsFaultCaused files a c answer
    → (answer ≡ status.OutOfMemory) ⊎ IsAnswer files a c (aim_of o files a).verdict answer → HasCause (run_command files) (run_outcome o files a) a c answer
unready_cause o files a c (status.ReadFault role.Config) early caused is = caused
unready_cause o files a c (status.ReadFault role.Image) early caused is = caused
unready_cause o files a c (status.ReadFault other) early caused is = absurd early
unready_cause o files a c (status.WriteFault r) early caused is = absurd early
unready_cause o files a c status.OutOfMemory early caused is = refl
unready_cause o files a c status.Done early caused is = absurd early
unready_cause o files a c status.Usage early caused is = absurd early
unready_cause o files a c (status.Schedule line why) early caused is = absurd early
unready_cause o files a c (status.Syntax line why) early caused is = absurd early
unready_cause o files a c (status.Config f) early caused (inl e) = λ told. cc
unready_cause o files a c (status.Config f) early caused (inr (inl h)) = absurd h
unready_cause o files a c (status.Config f) early caused (inr (inr h)) = h
unready_cause o files a c (status.Image f) early caused (inl e) = λ told. cc
unready_cause o files a c (status.Image f) early caused (inr (inl h)) = absurd h
unready_cause o files a c (status.Image f) early caused (inr (inr h)) = h
unready_cause o files a c (status.TooLarge r limit) early caused (inl e) = λ told. cc
unready_cause o files a c (status.TooLarge r limit) early caused (inr (inl h)) = absurd h
unready_cause o files a c (status.TooLarge r limit) early caused (inr (inr h)) = h

none_early : (files : Files) (answer : Status) → IsEarly answer → (r : Role) → run_creates files answer r ≡ None
none_early files (status.ReadFault role.Config) early r = refl
none_early files (status.ReadFault role.Image) early r = refl
none_early files (status.ReadFault other) early r = absurd early
none_early files (status.Config f) early r = refl
none_early files (status.Image f) early r = refl
none_early files (status.TooLarge role.Config limit) early r = refl
none_early files (status.TooLarge role.Image limit) early r = refl
none_early files (status.TooLarge other limit) early r = absurd early
none_early files status.OutOfMemory early r = refl
none_early files other early r = absurd early

config_opened : (files : Files) (r : Role) → is_some (config_file files r) ≡ false → is_config r ≡ false
config_opened files role.Config e = e
config_opened files other e = refl

both_opened : (files : Files) (r : Role) → is_some (first_files files r) ≡ false → is_first r ≡ false
both_opened files role.Config e = e
both_opened files role.Image e = e
both_opened files other e = refl

early_opened : (files : Files) (answer : Status) → IsEarly answer → (r : Role) → is_some (run_opens files answer r) ≡ false → unready_opens answer r ≡ false
early_opened files (status.ReadFault role.Config) early r e = config_opened files r e
early_opened files (status.ReadFault role.Image) early r e = both_opened files r e
early_opened files (status.ReadFault other) early r e = absurd early
early_opened files (status.Config f) early r e = config_opened files r e
early_opened files (status.Image f) early r e = both_opened files r e
early_opened files (status.TooLarge role.Config limit) early r e = config_opened files r e
early_opened files (status.TooLarge role.Image limit) early r e = both_opened files r e
early_opened files (status.TooLarge other limit) early r e = absurd early
early_opened files status.OutOfMemory early r e = both_opened files r e
early_opened files other early r e = absurd early

pub unready_for : (o : Account) (w : Option Files) (a c : HostState) (answer : Status) → IfSome w (λ files. IsUnready files a c answer) → OnlyOpens (unready_opens answer) a c
    → IfSome w (λ files. Answers (run_command files) (run_outcome o files a) a c answer)
unready_for o None a c answer h r = tt
unready_for o (Some files) a c answer h r =
    answers_early (run_command files) (unready_opens answer) (run_outcome o files a) a c answer (early_opened files answer h.early) (none_early files answer h.early) r
    (unready_cause o files a c answer h.early h.caused (go h.answered))
  where
    go : (answer ≡ status.OutOfMemory) ⊎ ((schedule : List ℕ) → IsAnswer files a c (status_of_bytes (bytes_of_file a files.config) (bytes_of_file a files.image) schedule) answer)
        → (answer ≡ status.OutOfMemory) ⊎ IsAnswer files a c (aim_of o files a).verdict answer
    go (inl e) = inl e
    go (inr f) = inr (f (bytes_of_file a files.schedule))
