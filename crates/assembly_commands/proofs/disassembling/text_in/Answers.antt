use Rattle.chip_config.specs.Settings.{settings}
use Rattle.assembly_commands.proofs.TextFacts.{loaded_text}
use Rattle.assembly_commands.proofs.disassembling.text_in.Goals as goal

pub returns-clause-back : goal.returns-clause-back
returns-clause-back c =
    loaded_text (settings c.plain-config.result) c.args.bytes.now c.in_ok-text.text.items c.in_ok-image.image c.plain-config.ensures c.in_ok-image.ensures.image
    c.in_ok-text.ensures.code c.entry_can_be_fetched.ensures c.in_ok-image.ensures.size c.in_ok-text.ensures.text
