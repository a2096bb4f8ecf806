use Rattle.std.proofs.Common.{◌&&◌, ◌∙◌, sym, ap}
use Rattle.std.specs.Prelude.{slice_get}
use Rattle.offload_calls.specs.Calls.{waits}
use Rattle.flat_check.proofs.HartFacts.{waits-err, waits-ok}
use Rattle.flat_check.proofs.acts.is_waiting.Goals as goal

pub returns-in-Err : goal.returns-in-Err
returns-in-Err c = sym (waits-err c.args.code.now (slice_get c.args.cores.now.items) c.args.regs.now c.in-Err.field-0 (c.requires ∙ c.in-Err.is))

pub returns-then-is_call : goal.returns-then-is_call
returns-then-is_call c =
    c.waits.ensures
    ∙ sym (waits-ok c.args.code.now (slice_get c.args.cores.now.items) c.args.regs.now c.in-Ok.planned (c.requires ∙ c.in-Ok.is)
    ∙ ap (λ b. b && waits (slice_get c.args.cores.now.items) c.args.regs.now) (sym c.is_call.ensures ∙ c.if-is_call.true))

pub returns-else-is_call : goal.returns-else-is_call
returns-else-is_call c =
    c.if-is_call.false
    ∙ sym (waits-ok c.args.code.now (slice_get c.args.cores.now.items) c.args.regs.now c.in-Ok.planned (c.requires ∙ c.in-Ok.is)
    ∙ ap (λ b. b && waits (slice_get c.args.cores.now.items) c.args.regs.now) (sym c.is_call.ensures ∙ c.if-is_call.false))
