use Rattle.std.proofs.Common.{◌≡◌, ◌++◌, map}
use Rattle.rand_core.specs.Steps.{first_words}
use Rattle.rand_pcg.specs.Pcg.{pcg32}
use Rattle.rv32_decode.specs.Encoding.{encoded}
use Rattle.self_workload.specs.Draws.{after_words}
use Rattle.self_workload.specs.Drawn.{drawn_instr}
use Rattle.self_workload.proofs.image.push_drawn.Given as goal

abbrev pub invariant-loop : goal.invariant-loop
invariant-loop l =
    (l.words.items ≡ l.fn.words.items ++ map encoded (map drawn_instr (first_words pcg32 l.counter l.fn.draws)))
    × (l.draws ≡ after_words l.counter l.fn.draws)
