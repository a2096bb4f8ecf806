use Rattle.std.proofs.Common.{◌≡◌, ◌-◌, [], Ok, sym, ap, ◌∙◌, subst, arith}
use Rattle.schedule_log.specs.Findings.{at_start}
use Rattle.schedule_log.specs.Verdict.{most_bytes}
use Rattle.machine_run.specs.Going.{CanGoOn, point}
use Rattle.machine_run.specs.Turning.{IsMidway, Rounds, RoundsOn}
use Rattle.machine_run.proofs.ReadingFacts.{start_can, start_midway, schedule_ends}
use Rattle.machine_run.proofs.schedule_run.run_schedule.Goals as goal

pub loop-run-init : goal.loop-run-init
loop-run-init g c =
    let m = g.M.Machine in
    let v = g.S.Streams.seen c.args.streams.now in
    let run = c.args.run.now in
    let start : c.new-reader.result ≡ at_start (m.hart_count run.machine) (m.core_count run.machine) =
    c.new-reader.ensures ∙ ap (λ n. at_start n c.cores.result) c.harts.ensures ∙ ap (λ n. at_start (m.hart_count run.machine) n) c.cores.ensures in
    record {
      can = subst (λ p. CanGoOn m (point run v p)) (sym start) (start_can m run v);
      few = omega (arith, ap (λ p. p.ended) start);
      leads = g.met.S.Streams.stays c.args.streams.now;
      midway = λ s bytes left r.
          let fits = g.met.M.Machine.fits s run.machine [] r.stands in
          subst (λ p. IsMidway m s bytes (point run v p) most_bytes) (sym start) (start_midway m s bytes v run fits.0 fits.1 left r);
    }

pub returns-in-Goes-eq0-clause-runs : goal.returns-in-Goes-eq0-clause-runs
returns-in-Goes-eq0-clause-runs g c =
    let m = g.M.Machine in
    let v = g.S.Streams.seen c.args.streams.now in
    let x = g.S.Streams.seen c.loop-run.streams in
    let y = g.S.Streams.seen c.round.new.streams in
    let p = point c.loop-run.run x c.loop-run.reader in
    let q = point c.round.new.run y c.round.new.reader in
    let on : RoundsOn m p q c.loop-run.room c.in-Goes-eq0.used = subst (λ t. Rounds m p q c.loop-run.room (Ok t)) c.in-Goes-eq0.is c.in_ok-round.ensures.rounds in
    let zero : c.in-Goes-eq0.used ≡ 0 = omega arith in
    schedule_ends m v (g.S.Streams.seen c.run_last.new.streams) c.args.run.now c.run_last.new.run q (c.loop-run.room - c.in-Goes-eq0.used) c.run_last.result
    (λ s bytes left r. on.midway s bytes (c.loop-run.invariant.midway s bytes left r)) (λ told. on.ended told zero) c.run_last.ensures.runs

pub loop-run-preserved : goal.loop-run-preserved
loop-run-preserved g c =
    let m = g.M.Machine in
    let p = point c.loop-run.run (g.S.Streams.seen c.loop-run.streams) c.loop-run.reader in
    let q = point c.round.new.run (g.S.Streams.seen c.round.new.streams) c.round.new.reader in
    let on : RoundsOn m p q c.loop-run.room c.in-Goes.used = subst (λ t. Rounds m p q c.loop-run.room (Ok t)) c.in-Goes.is c.in_ok-round.ensures.rounds in
    record {
      can = on.can;
      few = omega (arith, on.lines, c.loop-run.invariant.few);
      leads = g.met.S.Streams.goes_on c.args.streams.now c.loop-run.streams c.round.new.streams _ c.loop-run.invariant.leads c.in_ok-round.ensures.leads;
      midway = λ s bytes left r. on.midway s bytes (c.loop-run.invariant.midway s bytes left r);
    }
