-- One event on the parts of a chip, put together.
use Rattle.std.proofs.Common.{◌≡◌, ◌<◌, ℕ, List, sym, ap, ◌∙◌, subst, length, set, Some}
use Rattle.std.proofs.lemmas.Option.{same_Some}
use Rattle.std.specs.Prelude.{slice_get}
use Rattle.conda_base.specs.declared.actor.Actor.TheVariants as Actor_is
use Rattle.chip_laws.specs.Design.{Design}
use Rattle.chip_laws.specs.Rules.{World}
use Rattle.chip_laws.specs.Worlds.{happens}
use Rattle.coherent_mem.specs.Parts.{shown}
use Rattle.offload_calls.specs.declared.status.Hart.{Hart}
use Rattle.schedule_log.specs.declared.entry.Entry.{Entry}
use Rattle.chip_core.specs.declared.cores.Cores.{Cores}
use Rattle.chip_core.proofs.HartFacts.{harts-after}
use Rattle.chip_core.specs.Seats.{Turned}
use Rattle.chip_core.specs.Views.{ChipView}
use Rattle.chip_core.specs.Shows.{Shows, ShowsMemory, ShowsHarts, ShowsCores, ShowsLock}
use Rattle.chip_core.specs.Turns.{HartTurns, CoreTurns, Turns}

-- a hart's event, put together
pub hart-turn : (d : Design) (w : World) (h : ℕ) (c new : ChipView) (was hart : Hart) (cores : Cores) (entry : Entry) (puts : List ℕ) → h < length c.harts → Shows d c w
    → slice_get c.harts h ≡ Some was → new.config ≡ c.config → new.code ≡ c.code → new.harts ≡ set c.harts h hart
    → new.statuses ≡ cores.statuses.items → new.portions ≡ cores.portions.items → new.lock ≡ cores.lock → new.code ≡ new.code
    → ((old : ShowsMemory d (shown c.memory) c.log w × (was ≡ w.flat.harts h)) → HartTurns d w h new.code hart (shown new.memory) new.log cores entry puts)
    → h < d.config.harts
    → Turns d w (Actor_is.Hart h) new entry puts
hart-turn d w h c new was hart cores entry puts inside s at config code harts stats held lock same turns low =
    record {
      entry_is = t.entry_is;
      shows = record {
        config = config ∙ s.config;
        code = code ∙ s.code;
        memory = t.parts.memory;
        harts = subst (λ x. ShowsHarts d x (happens d w (Actor_is.Hart h))) (sym harts) (harts-after d w h c.harts hart inside s.harts t.hart_is);
        cores = subst (λ x. ShowsCores d x new.portions (happens d w (Actor_is.Hart h))) (sym stats)
            (subst (λ x. ShowsCores d cores.statuses.items x (happens d w (Actor_is.Hart h))) (sym held) t.parts.cores);
        lock = subst (λ x. ShowsLock d x (happens d w (Actor_is.Hart h))) (sym lock) t.parts.lock;
      };
      output = t.output;
    }
  where
    t : HartTurns d w h new.code hart (shown new.memory) new.log cores entry puts
    t = turns (s.memory, same_Some _ _ (sym at ∙ s.harts.each h low))

-- a core's event, put together
pub core-turns : (d : Design) (w : World) (j : ℕ) (c new : ChipView) (cores : Cores) (event : Turned) → Shows d c w
    → new.config ≡ c.config → new.harts ≡ c.harts
    → new.statuses ≡ cores.statuses.items → new.portions ≡ cores.portions.items → new.lock ≡ cores.lock
    → CoreTurns d w j new.code (shown new.memory) new.log cores event
    → Turns d w (Actor_is.Core j) new event.entry event.puts
core-turns d w j c new cores event s config harts stats held lock t =
    record {
      entry_is = t.entry;
      shows = record {
        config = config ∙ s.config;
        code = t.parts.code_is;
        memory = t.parts.memory;
        harts = record {
          many = ap length harts ∙ s.harts.many;
          each = λ h u. ap (λ (xs : List Hart). slice_get xs h) harts ∙ s.harts.each h u ∙ ap Some (sym (t.harts h));
        };
        cores = subst (λ x. ShowsCores d x new.portions (happens d w (Actor_is.Core j))) (sym stats)
            (subst (λ x. ShowsCores d cores.statuses.items x (happens d w (Actor_is.Core j))) (sym held) t.parts.cores);
        lock = subst (λ x. ShowsLock d x (happens d w (Actor_is.Core j))) (sym lock) t.parts.lock;
      };
      output = t.output;
    }
