use Rattle.std.proofs.Common.{◌∙◌, sym}
use Rattle.set_assoc.proofs.AgeLemmas.{none_of_age}
use Rattle.set_assoc.proofs.row.place_of_age.Goals as goal

pub returns-in-None : goal.returns-in-None
returns-in-None c = sym c.told-ages ∙ none_of_age c.args.ages.now c.args.age c.in-None.ensures
