use Rattle.std.proofs.Common.{◌∙◌, refl, ap, Some}
use Rattle.rv32_hart.specs.Code.{CodeView}
use Rattle.offload_calls.specs.State.{start_hart}
use Rattle.chip_laws.specs.Design.{design_for, setup_of}
use Rattle.flat_check.specs.Walkers.{walker_parts}
use Rattle.flat_check.proofs.CheckerFacts.{started}
use Rattle.flat_check.proofs.checker.Checker.new.Goals as goal

pub returns : goal.returns
returns c =
    let code_is = c.keep_decoded.ensures.same ∙ c.into_code-code.ensures in
    record {
      code = code_is;
      line_bytes = refl;
      shows =
          started (setup_of (design_for c.args.config.now c.args.image)) (walker_parts (record { flat = c.in_ok-flat.flat; tries = c.in_ok-tries.tries }))
          (c.in_ok-flat.ensures.memory ∙ ap (λ (x : CodeView). x.bytes) code_is)
          c.in_ok-flat.ensures.many
          (λ h u. c.in_ok-flat.ensures.harts h u ∙ ap (λ entry. Some (start_hart entry c.args.config.now.harts h)) c.entry-entry.ensures)
          c.in_ok-flat.ensures.statuses c.in_ok-flat.ensures.regs c.in_ok-flat.ensures.output c.in_ok-tries.ensures.acts c.in_ok-tries.ensures.fits.marks;
      entries = refl;
    }
