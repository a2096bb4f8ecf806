use Rattle.std.proofs.lemmas.Result.{err_from_is_err_and}
use Rattle.streams.proofs.StreamFacts.{true_false}
use Rattle.streams.proofs.UsingFacts.{keeps_trans}
use Rattle.command_run.specs.Names.{run_names}
use Rattle.command_run.proofs.ReportFacts.{text_at, all_of_text, all_of_report}
use Rattle.std.proofs.Common.{IsTrue, Ok, sym, subst}
use Rattle.conda_host.specs.declared.outside.Role.TheVariants as role
use Rattle.machine_run.specs.declared.ending.Ending.TheVariants.{Whole}
use Rattle.command_run.specs.Driving.{HasRunTexts, bytes_of_file}
use Rattle.std.proofs.Common.{◌∙◌, refl}
use Rattle.schedule_log.specs.Texts.{order_text}
use Rattle.schedule_log.specs.Verdict.{good}
use Rattle.command_run.specs.Driving.{HoldTextFronts}
use Rattle.command_run.proofs.FrontFacts.{not_used, not_created, fronts_of_fronts, fronts_of_texts, unused_before}
use Rattle.command_run.proofs.EndFacts.{schedule_bytes, ran_stays, stop_ends}
use Rattle.command_run.proofs.driving.carry_out.Goals as goal

pub returns-in_err-start-clause-keeps : goal.returns-in_err-start-clause-keeps
returns-in_err-start-clause-keeps g c = text_at (run_names c.args.names.now) c.from_residual.result c.in_err-start.ensures.keeps

pub returns-in_err-ending-clause-keeps : goal.returns-in_err-ending-clause-keeps
returns-in_err-ending-clause-keeps g c =
    text_at (run_names c.args.names.now) c.from_residual-in_err-ending.result (keeps_trans c.in_ok-start.ensures.keeps c.in_err-ending.ensures.keeps)

pub returns-in_err-report-in-Whole-clause-keeps : goal.returns-in_err-report-in-Whole-clause-keeps
returns-in_err-report-in-Whole-clause-keeps g c =
    let p = err_from_is_err_and c.from_residual-in_err-report-in-Whole.result c.from_residual-in_err-report-in-Whole.ensures.1 in
    let n = run_names c.args.names.now in
    rw (p.1, p.2, c.in_err-report-in-Whole.ensures.fault)
    (keeps_trans (keeps_trans (all_of_text n c.in_ok-start.ensures.keeps) (all_of_text n c.in_ok-ending.ensures.keeps)) (all_of_report n c.in_err-report-in-Whole.ensures.keeps))

pub returns-in_ok-report-in-Whole-clause-ends : goal.returns-in_ok-report-in-Whole-clause-ends
returns-in_ok-report-in-Whole-clause-ends g c = λ d stands told.
    let n = run_names c.args.names.now in
    let h = g.H.Host.state c.args.host.now in
    let i = g.H.Host.state c.start.new.host in
    let j = g.H.Host.state c.run_texts.new.host in
    let k = g.H.Host.state c.report.new.host in
    let told_i : IsTrue i.tells = subst IsTrue (sym c.in_ok-start.ensures.keeps.later.tells) told in
    let told_j : IsTrue j.tells = subst IsTrue (sym c.in_ok-ending.ensures.keeps.later.tells) told_i in
    let ran : HasRunTexts g.M.Machine n d (i.role role.Schedule).left j c.run_texts.new.task.run Whole =
    subst (HasRunTexts g.M.Machine n d (i.role role.Schedule).left j c.run_texts.new.task.run) c.in-Whole.is (c.in_ok-ending.ensures.runs d stands told_i) in (
      subst (λ bytes. HasRunTexts g.M.Machine n d bytes k c.run_texts.new.task.run Whole) (schedule_bytes n h i c.in_ok-start.ensures.started told)
          (ran_stays g.M.Machine n d (i.role role.Schedule).left j k c.run_texts.new.task.run Whole c.requires.apart told_j c.in_ok-report-in-Whole.ensures.keeps ran),
      c.in_ok-report-in-Whole.ensures.ok told_j,
    )

pub returns-in_ok-report-in-Whole-clause-keeps : goal.returns-in_ok-report-in-Whole-clause-keeps
returns-in_ok-report-in-Whole-clause-keeps g c =
    let n = run_names c.args.names.now in
    keeps_trans (keeps_trans (all_of_text n c.in_ok-start.ensures.keeps) (all_of_text n c.in_ok-ending.ensures.keeps)) (all_of_report n c.in_ok-report-in-Whole.ensures.keeps)

pub returns-in_default-clause-keeps : goal.returns-in_default-clause-keeps
returns-in_default-clause-keeps g c = text_at (run_names c.args.names.now) (Ok c.in_ok-ending.ending) (keeps_trans c.in_ok-start.ensures.keeps c.in_ok-ending.ensures.keeps)

pub returns-in_default-clause-ends : goal.returns-in_default-clause-ends
returns-in_default-clause-ends g c = λ d stands told.
    let n = run_names c.args.names.now in
    let h = g.H.Host.state c.args.host.now in
    let i = g.H.Host.state c.start.new.host in
    let j = g.H.Host.state c.run_texts.new.host in
    let told_i : IsTrue i.tells = subst IsTrue (sym c.in_ok-start.ensures.keeps.later.tells) told in
    stop_ends g.M.Machine g.M.Shown.shown n d (bytes_of_file h n.schedule) j c.run_texts.new.task.run c.in_ok-ending.ending c.in_default.not-Whole
    (subst (λ bytes. HasRunTexts g.M.Machine n d bytes j c.run_texts.new.task.run c.in_ok-ending.ending) (schedule_bytes n h i c.in_ok-start.ensures.started told) (c.in_ok-ending.ensures.runs d stands told_i))

pub returns-in_err-start-clause-fronts : goal.returns-in_err-start-clause-fronts
returns-in_err-start-clause-fronts g c =
    let p = err_from_is_err_and c.from_residual.result c.from_residual.ensures.1 in
    rw p.1
    (λ d stands told. record {
      texts = c.in_err-start.ensures.fronts _ _ told;
      report = not_used (c.in_err-start.ensures.keeps.created role.Report refl);
      ran = λ old is. absurd (not_created (g.H.Host.state c.args.host.now) (g.H.Host.state c.start.new.host) role.Report (c.in_err-start.ensures.keeps.created role.Report refl) old is);
    })

pub returns-in_err-ending-clause-fronts : goal.returns-in_err-ending-clause-fronts
returns-in_err-ending-clause-fronts g c =
    let p = err_from_is_err_and c.from_residual-in_err-ending.result c.from_residual-in_err-ending.ensures.1 in
    let n = run_names c.args.names.now in
    let m = g.M.Machine in
    let h = g.H.Host.state c.args.host.now in
    let i = g.H.Host.state c.start.new.host in
    let j = g.H.Host.state c.run_texts.new.host in
    let keeps = keeps_trans c.in_ok-start.ensures.keeps c.in_err-ending.ensures.keeps in
    rw p.1
    (λ d stands told.
    let told_i : IsTrue i.tells = subst IsTrue (sym c.in_ok-start.ensures.keeps.later.tells) told in
    record {
      texts = fronts_of_fronts n h j _ _
          (subst (λ bytes. HoldTextFronts n j (order_text (m.journal d (good d.config.harts d.config.cores bytes))) (m.output d (good d.config.harts d.config.cores bytes)))
          (schedule_bytes n h i c.in_ok-start.ensures.started told) (c.in_err-ending.ensures.runs d stands told_i));
      report = not_used (keeps.created role.Report refl);
      ran = λ old is. absurd (not_created h j role.Report (keeps.created role.Report refl) old is);
    })

pub returns-in_err-report-in-Whole-clause-fronts : goal.returns-in_err-report-in-Whole-clause-fronts
returns-in_err-report-in-Whole-clause-fronts g c =
    let p = err_from_is_err_and c.from_residual-in_err-report-in-Whole.result c.from_residual-in_err-report-in-Whole.ensures.1 in
    let n = run_names c.args.names.now in
    let h = g.H.Host.state c.args.host.now in
    let i = g.H.Host.state c.start.new.host in
    let j = g.H.Host.state c.run_texts.new.host in
    let k = g.H.Host.state c.report.new.host in
    let keeps = keeps_trans c.in_ok-start.ensures.keeps c.in_ok-ending.ensures.keeps in
    rw p.1
    (λ d stands told.
    let told_i : IsTrue i.tells = subst IsTrue (sym c.in_ok-start.ensures.keeps.later.tells) told in
    let told_j : IsTrue j.tells = subst IsTrue (sym c.in_ok-ending.ensures.keeps.later.tells) told_i in
    let ran : HasRunTexts g.M.Machine n d (bytes_of_file h n.schedule) j c.run_texts.new.task.run c.in_ok-ending.ending =
    subst (λ bytes. HasRunTexts g.M.Machine n d bytes j c.run_texts.new.task.run c.in_ok-ending.ending) (schedule_bytes n h i c.in_ok-start.ensures.started told) (c.in_ok-ending.ensures.runs d stands told_i) in
    record {
      texts = fronts_of_texts n h k _ _
          (ran_stays g.M.Machine n d (bytes_of_file h n.schedule) j k c.run_texts.new.task.run c.in_ok-ending.ending c.requires.apart told_j c.in_err-report-in-Whole.ensures.keeps ran).texts;
      report = unused_before role.Report (keeps.created role.Report refl) (c.in_err-report-in-Whole.ensures.front told_j);
      ran = λ old is. record { stands = ran.stands; count = ran.count; bytes_out = ran.bytes_out };
    })

pub returns-in_err-start-clause-unopened : goal.returns-in_err-start-clause-unopened
returns-in_err-start-clause-unopened g c = c.in_err-start.ensures.unopened

pub returns-in_err-ending-clause-unopened : goal.returns-in_err-ending-clause-unopened
returns-in_err-ending-clause-unopened g c = λ closed. true_false c.in_err-ending.ensures.opened closed

pub returns-in_err-report-in-Whole-clause-unopened : goal.returns-in_err-report-in-Whole-clause-unopened
returns-in_err-report-in-Whole-clause-unopened g c = λ closed.
    true_false ((c.in_err-report-in-Whole.ensures.keeps.opened role.Schedule refl).opened ∙ c.in_ok-ending.ensures.opened) closed

pub returns-in_ok-report-in-Whole-clause-unopened : goal.returns-in_ok-report-in-Whole-clause-unopened
returns-in_ok-report-in-Whole-clause-unopened g c = λ closed.
    true_false ((c.in_ok-report-in-Whole.ensures.keeps.opened role.Schedule refl).opened ∙ c.in_ok-ending.ensures.opened) closed

pub returns-in_default-clause-unopened : goal.returns-in_default-clause-unopened
returns-in_default-clause-unopened g c = λ closed. true_false c.in_ok-ending.ensures.opened closed
