use Rattle.std.proofs.Common.{refl, sym, ◌∙◌, ap, not, eqb}
use Rattle.std.proofs.lemmas.Bool.{eq-eqb, ne_eqb}
use Rattle.try_runs.specs.Ends.{is_done}
use Rattle.portion_ctl.proofs.ActFacts.{act-ended, act-ran, act-trapped, end-done, end-steps, end-trapped}
use Rattle.portion_ctl.proofs.acts.act_on.Goals as goal

pub returns-in-Done-clause-acts : goal.returns-in-Done-clause-acts
returns-in-Done-clause-acts g c t fills n holds acts =
    (end-done _ c.args.code.now t n (ap is_done (sym holds.status ∙ c.in-Done.is)), refl, refl)

pub returns-in-Trapped-clause-acts : goal.returns-in-Trapped-clause-acts
returns-in-Trapped-clause-acts g c t fills n holds acts =
    (end-trapped _ c.args.code.now t n _ (sym holds.status ∙ c.in-Trapped.is), refl, refl)

pub returns-then-b-clause-acts : goal.returns-then-b-clause-acts
returns-then-b-clause-acts g c t fills n holds acts =
    (end-steps _ c.args.code.now t n (sym holds.status ∙ c.in-Run.is) (ap (λ k. eqb k c.args.b.now.limits.portion_max) (sym acts) ∙ eq-eqb _ _ c.if-b.true), refl, refl)

pub returns-in-Err-clause-acts : goal.returns-in-Err-clause-acts
returns-in-Err-clause-acts g c t fills n holds acts =
    act-trapped c.args.code.now (g.B.Backing.shown c.args.mem.now) c.args.b.now t fills n _ c.args.log.now c.requires.parts
    (record { holds = holds; acts = acts; run = c.in-Run.is; more = ne_eqb _ _ c.if-b.false; plan_is = sym c.in-Err.ensures.value })

pub returns-then-is_none-clause-acts : goal.returns-then-is_none-clause-acts
returns-then-is_none-clause-acts g c t fills n holds acts =
    act-ran c.args.code.now (g.B.Backing.shown c.args.mem.now) c.args.b.now c.perform-cause.new.b t fills n c.in-Ok.planned c.args.log.now c.perform-cause.new.log c.perform-cause.result
    (c.is_none.ensures ∙ ap not c.if-is_none.true) c.perform-cause.ensures.acts
    (record { holds = holds; acts = acts; run = c.in-Run.is; more = ne_eqb _ _ c.if-b.false; plan_is = sym c.in-Ok.ensures.value })
    (c.perform-cause.ensures.performs t fills holds)

pub returns-else-is_none-clause-acts : goal.returns-else-is_none-clause-acts
returns-else-is_none-clause-acts g c t fills n holds acts =
    act-ended c.args.code.now (g.B.Backing.shown c.args.mem.now) c.args.b.now c.perform-cause.new.b t fills n c.in-Ok.planned c.args.log.now c.perform-cause.new.log c.perform-cause.result
    (c.is_none.ensures ∙ ap not c.if-is_none.false)
    (record { holds = holds; acts = acts; run = c.in-Run.is; more = ne_eqb _ _ c.if-b.false; plan_is = sym c.in-Ok.ensures.value })
    (c.perform-cause.ensures.performs t fills holds)
