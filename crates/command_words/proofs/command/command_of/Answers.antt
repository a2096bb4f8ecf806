use Rattle.std.proofs.Common.{map, string_bytes}
use Rattle.command_words.proofs.CommandFacts.{sound_result}
use Rattle.command_words.proofs.command.command_of.Goals as goal

pub returns-clause-sound : goal.returns-clause-sound
returns-clause-sound c =
    sound_result c.as_str.result.now (map string_bytes c.in_ok-name.options.now) c.command_by.result c.command_by.ensures
