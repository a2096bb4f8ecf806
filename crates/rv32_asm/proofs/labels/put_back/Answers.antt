use Rattle.std.proofs.lemmas.Map.Text.{btree_map_updates_str}
use Rattle.rv32_asm.proofs.labels.put_back.Goals as goal

pub returns : goal.returns
returns c q = btree_map_updates_str c.args.name.now c.args.labels.now c.insert.new.self _ c.in_ok-insert.ensures.updates q
