use Rattle.std.proofs.Common.{◌<◌, length, ap, ◌∙◌}
use Rattle.set_assoc.specs.Entries.{touched}
use Rattle.set_assoc.specs.SetLists.{list_of, with_list}
use Rattle.cpu_cache.proofs.FrontFacts.{replaced_front, replaced_place, some_before}
use Rattle.cpu_cache.proofs.lines.front_in.Goals as goal

pub touch-requires : goal.touch-requires
touch-requires c =
    let lines = c.args.lines.now in
    let some : 0 < length c.args.lines.now.lists = some_before lines c.replace.new.self c.args.l _ c.replace.ensures.written c.replace.ensures.kept.sets.some in
    rw c.replace.ensures.written (replaced_place lines c.args.l c.args.state c.args.place some c.requires)

pub returns-clause-front : goal.returns-clause-front
returns-clause-front c =
    let lines = c.args.lines.now in
    let some : 0 < length c.args.lines.now.lists = some_before lines c.replace.new.self c.args.l _ c.replace.ensures.written c.replace.ensures.kept.sets.some in
    c.touch.ensures.front ∙
    ap (λ s. with_list s c.args.l (touched c.args.l (list_of s c.args.l))) c.replace.ensures.written ∙
    replaced_front lines c.args.l c.args.state c.args.place some c.requires
