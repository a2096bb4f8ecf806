use Rattle.std.proofs.Common.{lit<}
use Rattle.std.proofs.lemmas.Str.Pattern.{split_once_first}
use Rattle.command_words.proofs.OptionFacts.{parts_of_split}
use Rattle.command_words.proofs.options.parts_of.Goals as goal

pub returns : goal.returns
returns c = parts_of_split c.args.word.now c.split_once.result (split_once_first 61 c.args.word.now c.split_once.result c.split_once.ensures.cases (lit< tt))
