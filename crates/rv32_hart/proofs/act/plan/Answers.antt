use Rattle.std.proofs.Common.{◌≡◌}
use Rattle.rv32_hart.specs.Act.{plan_instr}
use Rattle.rv32_hart.proofs.PlanFacts.{plan_instr-fits}
use Rattle.rv32_hart.proofs.act.plan.Goals as goal

pub returns-in-Some-decode-clause-fits : goal.returns-in-Some-decode-clause-fits
returns-in-Some-decode-clause-fits c =
    let same : c.plan_instr-in-Some-decode.result ≡ plan_instr c.args.code.now c.args.r.now c.in-Some-decode.instr = c.plan_instr-in-Some-decode.ensures in
    rw same (plan_instr-fits c.args.code.now c.args.r.now c.in-Some-decode.instr c.word-word.ensures.code c.in-Some-decode.ensures.fields)

pub returns-in-Some-clause-fits : goal.returns-in-Some-clause-fits
returns-in-Some-clause-fits c =
    let same : c.plan_instr.result ≡ plan_instr c.args.code.now c.args.r.now c.in-Some.instr = c.plan_instr.ensures in
    rw same (plan_instr-fits c.args.code.now c.args.r.now c.in-Some.instr c.kept_instr.ensures.code c.in-Some.ensures.fields)
