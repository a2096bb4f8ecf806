use Rattle.std.proofs.Common.{◌≡◌, ◌∙◌, sym, ap, subst, length}
use Rattle.std.specs.Prelude.{slice_get}
use Rattle.offload_calls.specs.Stores.{overlay, byte_at}
use Rattle.offload_calls.specs.Effects.{span_of_access, span_value, stores_of_access}
use Rattle.offload_calls.specs.HartAct.{hart_runs, HartEffect, act_effect, call_effect, instr_effect}
use Rattle.flat_check.specs.Acts.{count_of_put}
use Rattle.flat_check.specs.HartActs.{HasEffect, changed_statuses, launch_of}
use Rattle.flat_check.proofs.HartFacts.{trap_effect, hart-trap, hart-called, hart-plain, goes_on, run_is}
use Rattle.flat_check.proofs.acts.hart_act.Goals as goal

pub hart_call-requires-clause-goes_on : goal.hart_call-requires-clause-goes_on
hart_call-requires-clause-goes_on c =
    goes_on c.args.code.now (slice_get c.args.cores.now.items) c.args.hart.now.regs c.in-Ok.planned (c.requires.plan ∙ c.in-Ok.is)
    (sym c.is_call.ensures ∙ c.if-is_call.true) c.requires.goes_on

called : (c : goal.After-hart_call) → act_effect c.args.code.now (slice_get c.args.cores.now.items) c.args.memory.now c.args.hart.now.regs ≡ call_effect (slice_get c.args.cores.now.items) c.args.hart.now.regs
called c =
    hart-called c.args.code.now (slice_get c.args.cores.now.items) c.args.memory.now c.args.hart.now.regs c.in-Ok.planned (c.requires.plan ∙ c.in-Ok.is)
    (sym c.is_call.ensures ∙ c.if-is_call.true)

pub returns-then-is_call-clause-effect : goal.returns-then-is_call-clause-effect
returns-then-is_call-clause-effect c =
    subst (λ (e : HartEffect). HasEffect e c.hart_call.new.hart c.args.cores.now.items c.hart_call.new.cores.items c.hart_call.result.launch (count_of_put c.hart_call.result.act.put))
    (sym (called c)) c.hart_call.ensures.effect

pub returns-then-is_call-clause-memory : goal.returns-then-is_call-clause-memory
returns-then-is_call-clause-memory c = ap (λ (e : HartEffect). overlay c.args.code.now.base c.args.memory.now e.stores) (sym (called c))

trapped : (c : goal.After-no_call) → act_effect c.args.code.now (slice_get c.args.cores.now.items) c.args.memory.now c.args.hart.now.regs ≡ trap_effect c.args.hart.now.regs c.in-Err.trap
trapped c = hart-trap c.args.code.now (slice_get c.args.cores.now.items) c.args.memory.now c.args.hart.now.regs c.in-Err.trap (c.requires.plan ∙ c.in-Err.is)

pub returns-in-Err-clause-effect : goal.returns-in-Err-clause-effect
returns-in-Err-clause-effect c = record {
  hart_is = ap (λ (e : HartEffect). e.hart) (sym (trapped c));
  statuses = ap (λ (e : HartEffect). changed_statuses e.change c.args.cores.now.items) (sym (trapped c));
  launch_is = c.no_call.ensures.launch ∙ ap (λ (e : HartEffect). launch_of e.change) (sym (trapped c));
  puts_are = ap (λ (e : HartEffect). length e.puts) (trapped c) ∙ ap count_of_put (sym c.no_call.ensures.put);
}

pub returns-in-Err-clause-memory : goal.returns-in-Err-clause-memory
returns-in-Err-clause-memory c = ap (λ (e : HartEffect). overlay c.args.code.now.base c.args.memory.now e.stores) (sym (trapped c))

plain : (c : goal.After-no_call-in-Ok) → act_effect c.args.code.now (slice_get c.args.cores.now.items) c.args.memory.now c.args.hart.now.regs
    ≡ instr_effect c.args.hart.now.regs c.in-Ok.planned.instr (span_value (byte_at c.args.code.now.base c.args.memory.now) (span_of_access c.in-Ok.planned.access))
    (stores_of_access (span_value (byte_at c.args.code.now.base c.args.memory.now) (span_of_access c.in-Ok.planned.access)) c.in-Ok.planned.access)
plain c =
    hart-plain c.args.code.now (slice_get c.args.cores.now.items) c.args.memory.now c.args.hart.now.regs c.in-Ok.planned (c.requires.plan ∙ c.in-Ok.is)
    (sym c.is_call.ensures ∙ c.if-is_call.false)

pub returns-else-is_call-clause-effect : goal.returns-else-is_call-clause-effect
returns-else-is_call-clause-effect c = record {
  hart_is =
      run_is c.hart_plain.new.hart _ (ap hart_runs c.hart_plain.ensures.status ∙ c.requires.runs) c.hart_plain.ensures.regs
      ∙ ap (λ (e : HartEffect). e.hart) (sym (plain c));
  statuses = ap (λ (e : HartEffect). changed_statuses e.change c.args.cores.now.items) (sym (plain c));
  launch_is = c.no_call-in-Ok.ensures.launch ∙ ap (λ (e : HartEffect). launch_of e.change) (sym (plain c));
  puts_are = ap (λ (e : HartEffect). length e.puts) (plain c) ∙ ap count_of_put (sym c.no_call-in-Ok.ensures.put);
}

pub returns-else-is_call-clause-memory : goal.returns-else-is_call-clause-memory
returns-else-is_call-clause-memory c = c.hart_plain.ensures.memory ∙ ap (λ (e : HartEffect). overlay c.args.code.now.base c.args.memory.now e.stores) (sym (plain c))
