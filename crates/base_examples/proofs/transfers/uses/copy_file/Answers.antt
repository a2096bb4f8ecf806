use Rattle.base_examples.proofs.transfers.uses.copy_file.Goals as goal

pub new-files-requires : goal.new-files-requires
new-files-requires g c = c.in_ok-start.ensures c.args.sink c.requires
