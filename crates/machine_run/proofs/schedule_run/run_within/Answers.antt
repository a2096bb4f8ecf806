use Rattle.std.proofs.Common.{sym, subst}
use Rattle.std.proofs.lemmas.Result.{err_from_is_err_and}
use Rattle.machine_run.specs.Going.{IsEnded, point}
use Rattle.machine_run.proofs.ReadingFacts.{within_failed, within_cut, within_whole}
use Rattle.machine_run.proofs.schedule_run.run_within.Goals as goal

pub returns-in_err-stop-clause-runs : goal.returns-in_err-stop-clause-runs
returns-in_err-stop-clause-runs g c =
    let p = err_from_is_err_and c.from_residual.result c.from_residual.ensures.1 in
    rw p.1 (within_failed c.min-taken.result c.min-taken.ensures c.in_err-stop.ensures.runs)

pub returns-then-taken-piece-clause-runs : goal.returns-then-taken-piece-clause-runs
returns-then-taken-piece-clause-runs g c = λ s bytes rest cut.
    let v = g.S.Streams.seen c.args.streams.now in
    let w = g.S.Streams.seen c.run_piece.new.streams in
    subst (IsEnded g.M.Machine s bytes w c.run_piece.new.run) (sym c.unwrap_or.ensures)
    (within_cut g.M.Machine (point c.args.run.now v c.args.reader.now) (point c.run_piece.new.run w c.run_piece.new.reader) c.args.piece.now c.args.room c.min-taken.result c.in_ok-stop.stop
    c.min-taken.ensures c.if-taken-piece.true c.in_ok-stop.ensures.runs s bytes rest cut)

pub returns-clause-runs : goal.returns-clause-runs
returns-clause-runs g c =
    within_whole g.M.Machine _ _ c.args.piece.now c.args.room c.min-taken.result _ c.min-taken.ensures c.if-taken-piece.false c.in_ok-stop.ensures.runs
