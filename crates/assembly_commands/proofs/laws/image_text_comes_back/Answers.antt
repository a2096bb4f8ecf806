use Rattle.assembly_commands.proofs.TextFacts.{text_back}
use Rattle.assembly_commands.proofs.laws.image_text_comes_back.Goals as goal

pub returns : goal.returns
returns c = text_back c.args.image.now (rw c.code.ensures at c.base-base.ensures.code) c.requires.entry c.requires.few
