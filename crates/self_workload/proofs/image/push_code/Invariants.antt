use Rattle.std.proofs.Common.{◌≡◌, ◌++◌, drop, map, All}
use Rattle.rv32_decode.specs.Encoding.{encoded}
use Rattle.rv32_decode.specs.Ranges.{FieldsFit}
use Rattle.self_workload.proofs.image.push_code.Given as goal

abbrev pub invariant-loop-instr : goal.invariant-loop-instr
invariant-loop-instr l =
    (l.words.items ++ map encoded (drop l.instr-index l.code) ≡ l.fn.words.items ++ map encoded l.fn.code)
    × All FieldsFit (drop l.instr-index l.code)
