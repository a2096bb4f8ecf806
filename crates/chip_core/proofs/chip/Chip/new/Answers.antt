use Rattle.std.proofs.Common.{◌∙◌, ap, subst, refl, Some}
use Rattle.rv32_hart.specs.Code.{CodeView, IsCode}
use Rattle.coherent_mem.specs.Steps.{unused}
use Rattle.offload_calls.specs.State.{start_hart}
use Rattle.chip_core.specs.Views.{ChipView}
use Rattle.chip_core.proofs.StartFacts.{Made, made-fits, made-stands}
use Rattle.chip_core.proofs.chip.Chip.new.Goals as goal
use Rattle.chip_config.specs.Settings.{settings}
use Rattle.chip_config.proofs.RangeFacts.{accepted}

chip-of : goal.After-result-1 → ChipView
chip-of c = record {
  config = (settings c.args.config.now);
  code = c.keep_decoded.new.self;
  memory = c.in_ok-memory.memory;
  harts = c.in_ok-harts.harts.items;
  statuses = c.in_ok-cores.cores.statuses.items;
  portions = c.in_ok-cores.cores.portions.items;
  lock = c.in_ok-cores.cores.lock;
  log = c.in_ok-log.log;
}

made : (c : goal.After-result-1) → Made (settings c.args.config.now) c.args.image (chip-of c)
unfolding chip-of
made c =
    let code_is = c.keep_decoded.ensures.same ∙ c.into_code-code.ensures in
    record {
      config = refl;
      accepted = accepted c.args.config.now;
      code = code_is;
      is_code = subst IsCode code_is c.keep_decoded.ensures.code;
      base = c.requires.base;
      bytes = c.requires.bytes;
      memory = c.in_ok-memory.ensures.unused
          ∙ ap (λ (x : CodeView). unused c.args.config.now.line_bytes c.args.config.now.harts c.args.config.now.hart_sets c.args.config.now.hart_ways x.base x.bytes) code_is;
      coherent = c.in_ok-memory.ensures.kept;
      many = c.in_ok-harts.ensures.many;
      harts = λ h u. c.in_ok-harts.ensures.start h u ∙ ap (λ entry. Some (start_hart entry c.args.config.now.harts h)) c.entry-entry.ensures;
      statuses = c.in_ok-cores.ensures.statuses;
      portions = c.in_ok-cores.ensures.portions;
      lock = c.in_ok-cores.ensures.lock;
      log = c.in_ok-log.ensures;
    }

pub invariant_of-result : goal.invariant_of-result
unfolding chip-of
invariant_of-result c = made-fits (settings c.args.config.now) c.args.image (chip-of c) (made c)

pub returns : goal.returns
unfolding chip-of
returns c = made-stands (settings c.args.config.now) c.args.image (chip-of c) (made c)
