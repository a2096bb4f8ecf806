use Rattle.std.proofs.Common.{◌∙◌, ap, subst, refl, Some}
use Rattle.rv32_hart.specs.Code.{CodeView, IsCode}
use Rattle.coherent_mem.specs.Steps.{unused}
use Rattle.offload_calls.specs.State.{start_hart}
use Rattle.chip_config.specs.Settings.{settings}
use Rattle.chip_config.proofs.RangeFacts.{accepted}
use Rattle.chip_laws.specs.Design.{design_for}
use Rattle.plain_chip.specs.Views.{PlainView, plain_view}
use Rattle.plain_chip.proofs.StandsFacts.{made-is}
use Rattle.plain_chip.proofs.plain.Plain.new.Goals as goal

pub returns : goal.returns
returns c =
    let config = c.args.config.now in
    let plain : PlainView = plain_view (settings config) c.keep_decoded.new.self c.in_ok-memory.memory
    c.in_ok-harts.harts.items c.idle_cores.result.items c.in_ok-regs.regs.items c.in_ok-log.log in
    let code_is = c.keep_decoded.ensures.same ∙ c.into_code-code.ensures in
    made-is (design_for config c.args.image) c.args.holders plain (record {
      config = refl;
      accepted = accepted config;
      code = code_is;
      is_code = subst IsCode code_is c.keep_decoded.ensures.code;
      base = c.requires.base;
      bytes = c.requires.bytes;
      memory = c.in_ok-memory.ensures.unused
          ∙ ap (λ (x : CodeView). unused config.line_bytes c.args.holders config.hart_sets config.hart_ways x.base x.bytes)
          code_is;
      many = c.in_ok-harts.ensures.many;
      harts = λ h u. c.in_ok-harts.ensures.start h u
          ∙ ap (λ entry. Some (start_hart entry config.harts h)) c.entry-entry.ensures;
      statuses = c.idle_cores.ensures;
      regs = c.in_ok-regs.ensures;
      log = c.in_ok-log.ensures;
    })
