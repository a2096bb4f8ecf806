use Rattle.std.proofs.Common.{◌+◌, refl, ap, ◌∙◌}
use Rattle.rand_pcg.specs.Pcg.{pcg32}
use Rattle.self_workload.specs.Drawn.{drawn_actor}
use Rattle.self_workload.specs.Workload.{events_of_seed}
use Rattle.self_run.specs.Designs.{design_of_seed}
use Rattle.self_run.proofs.StepFacts.{draws_more, ran_more}
use Rattle.self_run.proofs.generated.Generated.step.Goals as goal

pub returns-clause-at : goal.returns-clause-at
returns-clause-at g c =
    let old = c.args.self.now in
    let n = old.run.events in
    let at = c.requires.at in
    record {
      ran = ran_more g.M.Machine old.seed n old.run _ c.next_actor-actor.result c.event.new.out.items
          (c.next_actor-actor.ensures.actor ∙ ap (λ d. drawn_actor (pcg32 d).0) at.draws)
          (c.event.ensures.stands (design_of_seed old.seed) (events_of_seed old.seed n) at.ran.stands)
          (c.event.ensures.output (design_of_seed old.seed) (events_of_seed old.seed n) at.ran.stands)
          at.ran refl (ap (λ k. old.run.output_bytes + k) c.len.ensures.value);
      draws = c.next_actor-actor.ensures.state ∙ ap (λ d. (pcg32 d).1) at.draws ∙ draws_more old.seed n;
    }
