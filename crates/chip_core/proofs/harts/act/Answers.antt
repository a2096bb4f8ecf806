use Rattle.std.proofs.Common.{◌≡◌, ◌∙◌, ap, refl, sym, subst, true}
use Rattle.std.proofs.Common.{Ok}
use Rattle.offload_calls.specs.HartAct.{hart_runs}
use Rattle.offload_calls.specs.declared.status.Hart.{Hart}
use Rattle.rv32_hart.specs.Act.{after, plan_of}
use Rattle.rv32_hart.specs.Code.{CodeView}
use Rattle.coherent_mem.specs.Parts.{shown}
use Rattle.conda_base.specs.LineLists.{line_list}
use Rattle.offload_calls.specs.LineUses.{use_of_access, stored_line}
use Rattle.std.specs.Vec.{with_items}
use Rattle.std.proofs.lemmas.List.{with_items_is}
use Rattle.chip_core.specs.declared.cores.Cores.{Cores}
use Rattle.chip_core.specs.Steps.{all_told}
use Rattle.chip_core.specs.Fits.{FitCores}
use Rattle.chip_core.proofs.FitFacts.{all-told-fit}
use Rattle.chip_core.proofs.HartFacts.{plain-steps, run-of, same-hart, hart-of}
use Rattle.chip_core.proofs.NotedFacts.{used-noted}
use Rattle.chip_core.proofs.harts.act.Goals as goal

pub returns-clause-steps : goal.returns-clause-steps
returns-clause-steps c d w reached s at runs plan =
    let b = shown c.args.memory.now in
    let e = c.exchange-loaded in
    let lines = line_list (stored_line (use_of_access b.line_bytes c.args.planned.access)) in
    let now : Cores = record { statuses = c.args.cores.now.statuses; portions = with_items c.args.cores.now.portions e.new.portions; lock = c.args.cores.now.lock } in
    plain-steps d w c.args.h c.args.code.now (hart-of c.finish.new.r c.args.hart.now.status) b (shown e.new.memory) c.args.log.now e.new.log
    c.args.cores.now now c.args.planned e.result s
    (subst (λ (x : Hart). hart_runs x.status ≡ true) at runs)
    (subst (λ (x : CodeView). plan_of x (w.flat.harts c.args.h).regs ≡ Ok c.args.planned) s.code_is
    (subst (λ (x : Hart). plan_of c.args.code.now x.regs ≡ Ok c.args.planned) at plan))
    c.requires.plain e.ensures.value e.ensures.memory e.ensures.notes
    (with_items_is c.args.cores.now.portions e.new.portions (e.auto.portions ∙ c.deref_mut.ensures.len) ∙ e.ensures.told ∙ ap (all_told lines) c.deref_mut.ensures.value) refl refl
    (same-hart (c.finish.ensures.value ∙ ap (λ (x : Hart). after x.regs c.args.planned.instr e.result) at) (run-of c.args.hart.now.status runs))

pub returns-clause-kept : goal.returns-clause-kept
returns-clause-kept c =
    let n = c.exchange-loaded.ensures.memory.numbers in
    record {
      base = n.base ∙ c.requires.same.base;
      bytes = n.size ∙ c.requires.same.bytes;
      coherent = c.exchange-loaded.ensures.kept;
    }

pub returns-clause-fits : goal.returns-clause-fits
returns-clause-fits c config free f =
    let b = shown c.args.memory.now in
    let e = c.exchange-loaded in
    let lines = line_list (stored_line (use_of_access b.line_bytes c.args.planned.access)) in
    let held = with_items_is c.args.cores.now.portions e.new.portions (e.auto.portions ∙ c.deref_mut.ensures.len) ∙ e.ensures.told ∙ ap (all_told lines) c.deref_mut.ensures.value in
    subst (λ x. FitCores config c.args.code.now c.args.cores.now.statuses.items x c.args.cores.now.lock) (sym held)
    (all-told-fit config c.args.code.now c.args.cores.now.statuses.items c.args.cores.now.portions.items c.args.cores.now.lock lines free f)

pub returns-clause-noted : goal.returns-clause-noted
returns-clause-noted c =
    let e = c.exchange-loaded in
    used-noted c.args.code.now (shown c.args.memory.now) (shown e.new.memory) c.args.h c.args.planned.access c.args.log.now e.new.log
    c.requires.same c.requires.plan.access e.ensures.memory.numbers e.ensures.notes
