use Rattle.std.proofs.Common.{◌≡◌, arith, refl}
use Rattle.run_report.proofs.tests.StillShown.line.Goals as goal

pub returns : goal.returns
returns c = let here : c.args._l.0 ≡ 2 = omega arith in rw here refl
