-- One more event of a generated workload.
use Rattle.std.proofs.Common.{◌≡◌, ℕ, ◌+◌, List, [], ◌∷◌, ◌++◌, length, map, sym, ap, ◌∙◌, subst, arith}
use Rattle.std.proofs.lemmas.List.{length-append}
use Rattle.rand_pcg.specs.Pcg.{pcg32}
use Rattle.conda_base.specs.declared.actor.Actor.{Actor}
use Rattle.chip_config.specs.declared.config.Config.{Config}
use Rattle.chip_config.specs.Settings.{settings}
use Rattle.elf_loader.specs.Image.{ImageView, image_of}
use Rattle.chip_laws.specs.Design.{Design, design_for}
use Rattle.machine_run.specs.declared.machine.Machine.{Ghosts}
use Rattle.machine_run.specs.declared.run.Run.{Run}
use Rattle.self_workload.specs.Draws.{after_words, generator_after, generator_of}
use Rattle.self_workload.specs.Drawn.{drawn_actor}
use Rattle.self_workload.specs.Workload.{events_of_seed, image_of_seed, workload_settings}
use Rattle.self_workload.proofs.DrawFacts.{after_after, after_more, drawn_more, no_draws}
use Rattle.self_run.specs.Designs.{design_of_seed}
use Rattle.self_run.specs.Generated.{HasRunFirst}

-- the actor of the event after the first n
abbrev pub actor_after : ℕ → ℕ → Actor
actor_after seed n = drawn_actor (pcg32 (generator_after seed (64 + n))).0

pub events_more : (seed n : ℕ) → events_of_seed seed n ++ actor_after seed n ∷ [] ≡ events_of_seed seed (n + 1)
events_more seed n =
    sym (drawn_more drawn_actor n (after_words 64 (generator_of seed))
    ∙ ap (λ d. events_of_seed seed n ++ drawn_actor (pcg32 d).0 ∷ []) (after_after 64 n (generator_of seed)))

pub no_events : (seed : ℕ) → [] ≡ events_of_seed seed 0
no_events seed = sym (ap (map drawn_actor) (no_draws (after_words 64 (generator_of seed))))

next_place : (n : ℕ) → 64 + n + 1 ≡ 64 + (n + 1)
next_place n = omega arith

pub draws_more : (seed n : ℕ) → (pcg32 (generator_after seed (64 + n))).1 ≡ generator_after seed (64 + (n + 1))
draws_more seed n = sym (after_more (64 + n) (generator_of seed)) ∙ ap (generator_after seed) (next_place n)

pub ran_more : {A : Type 0} (m : Ghosts A) (seed n : ℕ) (old new : Run A) (a : Actor) (out : List ℕ)
    → a ≡ actor_after seed n
    → m.stands (design_of_seed seed) new.machine (events_of_seed seed n ++ a ∷ [])
    → m.output (design_of_seed seed) (events_of_seed seed n ++ a ∷ []) ≡ m.output (design_of_seed seed) (events_of_seed seed n) ++ out
    → HasRunFirst m seed n old → new.events ≡ n + 1 → new.output_bytes ≡ old.output_bytes + length out
    → HasRunFirst m seed (n + 1) new
ran_more m seed n old new a out is stands puts before counted bytes =
    let events : events_of_seed seed n ++ a ∷ [] ≡ events_of_seed seed (n + 1) =
    ap (λ a. events_of_seed seed n ++ a ∷ []) is ∙ events_more seed n in
    record {
      stands = subst (m.stands (design_of_seed seed) new.machine) events stands;
      events = counted;
      bytes =
          bytes ∙ ap (λ k. k + length out) before.bytes
          ∙ sym (length-append (m.output (design_of_seed seed) (events_of_seed seed n)) out)
          ∙ ap length (sym puts ∙ ap (m.output (design_of_seed seed)) events);
    }

pub same_design : (config : Config) (image : ImageView) (bytes : List ℕ) (seed : ℕ) → settings config ≡ workload_settings → bytes ≡ image_of_seed seed
    → image ≡ image_of bytes config.mem_base config.mem_bytes → design_for config image ≡ design_of_seed seed
same_design config image bytes seed same is loaded =
    ap (λ s. record { config = s; image = image }) same
    ∙ ap (λ i. record { config = workload_settings; image = i })
    (loaded ∙ ap (λ b. image_of b config.mem_base config.mem_bytes) is ∙ ap (λ s. image_of (image_of_seed seed) s.mem_base s.mem_bytes) same)

pub starts : {A : Type 0} (m : Ghosts A) (seed : ℕ) (run : Run A) (d : Design) → d ≡ design_of_seed seed → m.stands d run.machine []
    → m.output (design_of_seed seed) [] ≡ [] → run.events ≡ 0 → run.output_bytes ≡ 0 → HasRunFirst m seed 0 run
starts m seed run d same stands none counted bytes = record {
  stands = subst (λ e. m.stands (design_of_seed seed) run.machine e) (no_events seed) (subst (λ d. m.stands d run.machine []) same stands);
  events = counted;
  bytes = bytes ∙ ap length (sym none ∙ ap (m.output (design_of_seed seed)) (no_events seed));
}
