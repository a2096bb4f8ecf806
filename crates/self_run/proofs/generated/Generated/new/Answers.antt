use Rattle.std.proofs.Common.{refl, ◌∙◌}
use Rattle.self_run.specs.Designs.{design_of_seed}
use Rattle.self_run.proofs.StepFacts.{same_design, starts}
use Rattle.self_run.proofs.generated.Generated.new.Goals as goal

pub returns-clause-at : goal.returns-clause-at
returns-clause-at g c =
    let laws = g.met.M.Machine in
    record {
      ran = starts g.M.Machine c.args.seed _ _
          (same_design c.config-config.result c.in_ok-image-2.image c.deref.result.now c.args.seed c.config-config.ensures
          (c.deref.ensures.value ∙ c.in_ok-image.ensures.image) c.in_ok-image-2.ensures.image)
          c.in_ok-machine.ensures.stands (laws.starts (design_of_seed c.args.seed)).1 refl refl;
      draws = c.in_ok-image.ensures.draws;
    }
