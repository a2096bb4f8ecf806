use Rattle.std.proofs.Common.{◌≡◌, sym, ◌∙◌}
use Rattle.std.specs.Prelude.{Some, None}
use Rattle.std.proofs.lemmas.Map.Text.{btree_map_updates_str}
use Rattle.rv32_asm.specs.Labels.{place_in}
use Rattle.rv32_asm.proofs.LabelLemmas.{added, placed_again}
use Rattle.rv32_asm.proofs.labels.add.Goals as goal

pub returns-in-None : goal.returns-in-None
returns-in-None c q =
    let none : place_in c.args.labels.now c.args.name.now ≡ None = sym c.in_ok-insert.ensures.old ∙ c.in-None.is in
    btree_map_updates_str c.args.name.now c.args.labels.now c.insert.new.self _ c.in_ok-insert.ensures.updates q
    ∙ added (place_in c.args.labels.now) c.args.name.now q c.args.place none

pub returns-in_ok-put_back-in-Some : goal.returns-in_ok-put_back-in-Some
returns-in_ok-put_back-in-Some c q =
    let had : place_in c.args.labels.now c.args.name.now ≡ Some c.in-Some.first = sym c.in_ok-insert.ensures.old ∙ c.in-Some.is in
    let other = btree_map_updates_str c.args.name.now c.args.labels.now c.insert.new.self _ c.in_ok-insert.ensures.updates q in
    placed_again (place_in c.args.labels.now) (place_in c.insert.new.self) (place_in c.put_back.new.labels) c.args.name.now q c.args.place c.in-Some.first
    had other (c.in_ok-put_back-in-Some.ensures q)
