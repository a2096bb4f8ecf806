use Rattle.std.proofs.Common.{ap, subst, ◌∙◌, sym}
use Rattle.portion_ctl.specs.declared.body.Body.{Body}
use Rattle.portion_ctl.specs.States.{IsSameTry}
use Rattle.portion_ctl.specs.Bodies.{HasParts, opened_of}
use Rattle.portion_ctl.proofs.StandFacts.{act-made, act-refused, same-try}
use Rattle.portion_ctl.proofs.portion.Open.act.Goals as goal

pub returns-in-None-clause-acts : goal.returns-in-None-clause-acts
returns-in-None-clause-acts g c p stands =
    let done = act-made c.args.code.now (g.B.Backing.shown c.args.mem.now) c.deref_mut.result.now c.act_on.new.b c.args.self p c.args.log.now c.act_on.new.log
    (ap opened_of c.deref_mut.ensures.value ∙ c.self.view_is) c.base-bytes.ensures.code
    (subst HasParts (sym c.deref_mut.ensures.value) c.self.invariant) c.in-None.ensures.parts c.in-None.ensures.keeps c.in-None.ensures.acts stands in
    (done.0, done.1)

pub returns-in-None-clause-notes : goal.returns-in-None-clause-notes
returns-in-None-clause-notes g c p stands =
    (act-made c.args.code.now (g.B.Backing.shown c.args.mem.now) c.deref_mut.result.now c.act_on.new.b c.args.self p c.args.log.now c.act_on.new.log
    (ap opened_of c.deref_mut.ensures.value ∙ c.self.view_is) c.base-bytes.ensures.code
    (subst HasParts (sym c.deref_mut.ensures.value) c.self.invariant) c.in-None.ensures.parts c.in-None.ensures.keeps c.in-None.ensures.acts stands).2

pub returns-in-Some-clause-acts : goal.returns-in-Some-clause-acts
returns-in-Some-clause-acts g c p stands =
    let done = act-refused c.args.code.now (g.B.Backing.shown c.args.mem.now) c.deref_mut.result.now c.act_on.new.b c.args.self p c.in-Some.cause c.args.log.now c.act_on.new.log
    (ap opened_of c.deref_mut.ensures.value ∙ c.self.view_is) c.in-Some.ensures.acts stands in
    (done.0, ap opened_of c.deref_mut-in-Some.ensures.value ∙ done.1)

pub returns-in-Some-clause-notes : goal.returns-in-Some-clause-notes
returns-in-Some-clause-notes g c p stands =
    (act-refused c.args.code.now (g.B.Backing.shown c.args.mem.now) c.deref_mut.result.now c.act_on.new.b c.args.self p c.in-Some.cause c.args.log.now c.act_on.new.log
    (ap opened_of c.deref_mut.ensures.value ∙ c.self.view_is) c.in-Some.ensures.acts stands).2

pub returns-in-None-clause-kept : goal.returns-in-None-clause-kept
returns-in-None-clause-kept g c =
    same-try c.deref_mut.result.now c.act_on.new.b c.args.self (ap opened_of c.deref_mut.ensures.value ∙ c.self.view_is)
    (subst HasParts (sym c.deref_mut.ensures.value) c.self.invariant) c.in-None.ensures.parts c.in-None.ensures.keeps

pub returns-in-Some-clause-kept : goal.returns-in-Some-clause-kept
returns-in-Some-clause-kept g c =
    let P : Body → Type 0 = λ x. IsSameTry c.args.self (opened_of x) in
    subst P (sym c.deref_mut-in-Some.ensures.value)
    (same-try c.deref_mut.result.now c.act_on.new.b c.args.self (ap opened_of c.deref_mut.ensures.value ∙ c.self.view_is)
    (subst HasParts (sym c.deref_mut.ensures.value) c.self.invariant) c.in-Some.ensures.parts c.in-Some.ensures.keeps)
