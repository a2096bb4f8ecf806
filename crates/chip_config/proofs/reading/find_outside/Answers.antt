use Rattle.std.proofs.Common.{◌<◌, arith, length, rules, sym, ◌∙◌}
use Rattle.chip_config.proofs.ReadingLemmas.{length_table, outside_here, outside_later}
use Rattle.chip_config.proofs.reading.find_outside.Goals as goal

pub bounds-numbers-index : goal.bounds-numbers-index
bounds-numbers-index c = omega (arith, length_table c.args.table.now c.requires)

pub bounds-numbers-index-then-not-has : goal.bounds-numbers-index-then-not-has
bounds-numbers-index-then-not-has c = omega (arith, length_table c.args.table.now c.requires)

pub overflow_cast-result : goal.overflow_cast-result
overflow_cast-result c = let few = length_table c.args.table.now c.requires in search rules

pub overflow_add-result : goal.overflow_add-result
overflow_add-result c = let few = length_table c.args.table.now c.requires in search rules

pub returns-then-not-has : goal.returns-then-not-has
returns-then-not-has c =
    let also : c.loop-index.index < length c.args.numbers.now = omega (arith, length_table c.args.table.now c.requires) in
    sym (outside_here c.args.table.now c.args.numbers.now c.loop-index.index _ c.loop-index-test.true also (sym c.has.ensures ∙ c.if-not-has.true)) ∙ c.loop-index.invariant

pub loop-index-preserved : goal.loop-index-preserved
loop-index-preserved c =
    let also : c.loop-index.index < length c.args.numbers.now = omega (arith, length_table c.args.table.now c.requires) in
    sym (outside_later c.args.table.now c.args.numbers.now c.loop-index.index _ c.loop-index-test.true also (sym c.has.ensures ∙ c.if-not-has.false)) ∙ c.loop-index.invariant
