use Rattle.elf_loader.proofs.LawFacts.{entry_fetched}
use Rattle.elf_loader.proofs.laws.entry_can_be_fetched.Goals as goal

pub returns : goal.returns
returns c = entry_fetched c.args.file.now c.args.base c.args.size c.requires
