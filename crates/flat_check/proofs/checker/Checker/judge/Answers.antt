use Rattle.std.proofs.Common.{◌+◌, ◌∙◌, sym, ap}
use Rattle.chip_laws.specs.Design.{setup_of}
use Rattle.flat_check.specs.Walks.{ruled, walk}
use Rattle.flat_check.proofs.JudgingFacts.{has-there, judged}
use Rattle.flat_check.proofs.checker.Checker.judge.Goals as goal

pub returns : goal.returns
returns c = record {
  judged = λ d order h.
      judged d order c.in-Some.entry c.args.line c.in-Some.is
      (has-there d c.args.self.now order c.in-Some.entry h (sym c.has.ensures ∙ c.if-not-has.false))
      c.entry.new.self c.entry.result c.fault_of.result (c.entries-number.result + 1) (ap (λ n. n + 1) (c.entries-number.ensures ∙ h.entries))
      (c.entry.ensures.rules d order h) (c.entry.ensures.walks d order h)
      (λ later. c.fault_of.ensures.told (ruled (setup_of d) (walk (setup_of d) order) c.in-Some.entry) later (c.entry.ensures.rules d order h))
      c.fault_of.ensures.few;
}
