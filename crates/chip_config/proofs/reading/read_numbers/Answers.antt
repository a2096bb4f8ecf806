use Rattle.std.proofs.Common.{◌≡◌, ◌<◌, arith, length, rules, sym, ◌∙◌}
use Rattle.serde_json.specs.View.{view}
use Rattle.chip_config.proofs.ReadingLemmas.{length_table, without_end, without_later, written_end, written_more}
use Rattle.chip_config.proofs.reading.read_numbers.Goals as goal

pub bounds-numbers-index : goal.bounds-numbers-index
bounds-numbers-index c = omega (arith, length_table c.args.table.now c.requires)

pub overflow_cast-result : goal.overflow_cast-result
overflow_cast-result c = let few = length_table c.args.table.now c.requires in search rules

pub overflow_add-result : goal.overflow_add-result
overflow_add-result c = let few = length_table c.args.table.now c.requires in search rules

pub loop-index-preserved : goal.loop-index-preserved
loop-index-preserved c =
    let also : c.loop-index.index < length c.loop-index.numbers = omega (arith, c.loop-index.invariant.sixteen, length_table c.args.table.now c.requires) in
    let is = sym c.read_number.ensures ∙ c.in-Some.is in
    record {
      sixteen = search rules;
      first = sym (without_later (view c.args.value.now) c.args.table.now c.loop-index.index _ _ c.loop-index-test.true is) ∙ c.loop-index.invariant.first;
      written = written_more (view c.args.value.now) c.args.table.now c.loop-index.numbers c.loop-index.index _ _ c.loop-index-test.true also is ∙ c.loop-index.invariant.written;
    }

pub returns : goal.returns
returns c =
    let all = length_table c.args.table.now c.requires in
    let ends : c.loop-index.index ≡ length c.args.table.now = omega arith in
    let also : c.loop-index.index ≡ length c.loop-index.numbers = omega (arith, c.loop-index.invariant.sixteen) in (
      sym c.loop-index.invariant.first ∙ without_end (view c.args.value.now) c.args.table.now c.loop-index.index ends,
      sym (written_end (view c.args.value.now) c.args.table.now c.loop-index.numbers c.loop-index.index ends also) ∙ c.loop-index.invariant.written,
    )
