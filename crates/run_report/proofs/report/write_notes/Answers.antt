use Rattle.std.proofs.Common.{◌≡◌, ◌∙◌, ap, length, arith}
use Rattle.std.proofs.lemmas.Result.{err_from_is_err_and}
use Rattle.run_report.specs.Texts.{note_at_text}
use Rattle.run_report.proofs.ReportLemmas.{notes_are, loop_all, loop_next, loop_none, loop_stops}
use Rattle.run_report.proofs.report.write_notes.Goals as goal

pub loop-place-init : goal.loop-place-init
loop-place-init g c =
    let v = g.C.Shown.shown c.args.chip.now in
    loop_none g.met.T.ReportTarget.joins c.args.target.now (note_at_text v)

pub loop-place-preserved : goal.loop-place-preserved
loop-place-preserved g c =
    let v = g.C.Shown.shown c.args.chip.now in
    loop_next g.met.T.ReportTarget.joins c.args.target.now c.loop-place.target c.write_note.new.target (note_at_text v) c.loop-place.place c.loop-place.invariant c.in_ok-write_note.ensures

pub returns-in_err-write_note : goal.returns-in_err-write_note
returns-in_err-write_note g c =
    let v = g.C.Shown.shown c.args.chip.now in
    let all : c.kept-place-end.result ≡ length v.trace.notes = c.kept-place-end.ensures ∙ ap (λ t. length t.notes) c.traffic.ensures.value in
    let p = err_from_is_err_and c.from_residual.result c.from_residual.ensures.1 in
    rw (p.1, p.2) (loop_stops g.met.T.ReportTarget.joins c.args.target.now c.loop-place.target c.write_note.new.target c.in_err-write_note.field-0.0 (note_at_text v) c.loop-place.place (length v.trace.notes) (notes_are v) (omega arith) c.loop-place.invariant c.in_err-write_note.ensures)

pub returns : goal.returns
returns g c =
    let v = g.C.Shown.shown c.args.chip.now in
    let all : c.kept-place-end.result ≡ length v.trace.notes = c.kept-place-end.ensures ∙ ap (λ t. length t.notes) c.traffic.ensures.value in
    loop_all g.met.T.ReportTarget.joins c.args.target.now c.loop-place.target (note_at_text v) c.loop-place.place (length v.trace.notes) (notes_are v) (omega arith) c.loop-place.invariant
