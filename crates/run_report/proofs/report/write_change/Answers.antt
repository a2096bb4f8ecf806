use Rattle.std.proofs.Common.{◌∙◌, sym, subst}
use Rattle.run_report.proofs.ReportLemmas.{change_is, changed_none, fronts_compare, same_text}
use Rattle.run_report.proofs.report.write_change.Goals as goal

pub returns-then-eq : goal.returns-then-eq
returns-then-eq g c =
    let v = g.C.Shown.shown c.args.chip.now in
    let old = c.args.target.now in
    let same = fronts_compare v c.requires.kept c.args.l.0 c.requires.line c.line.new.out c.loaded.new.out c.line.ensures c.loaded.ensures c.line_bytes-line_bytes.result c.line_bytes-line_bytes.ensures.value c.eq.result c.eq.ensures in
    subst (λ text. g.T.ReportTarget.wrote old old text) (sym (changed_none v c.args.l.0 (same ∙ c.if-eq.true))) (g.met.T.ReportTarget.joins.nothing old)

pub returns : goal.returns
returns g c =
    let v = g.C.Shown.shown c.args.chip.now in
    let same = fronts_compare v c.requires.kept c.args.l.0 c.requires.line c.line.new.out c.loaded.new.out c.line.ensures c.loaded.ensures c.line_bytes-line_bytes.result c.line_bytes-line_bytes.ensures.value c.eq.result c.eq.ensures in
    let text = change_is v c.requires.kept c.args.l.0 c.requires.line c.line.new.out c.line.ensures c.line_bytes-line_bytes.result c.line_bytes-line_bytes.ensures.value (same ∙ c.if-eq.false) c.as_slice.result.now (c.as_slice.ensures.value ∙ c.changed_line.ensures) in
    same_text g.met.T.ReportTarget.joins c.put.result c.args.target.now c.put.new.self text c.put.ensures
