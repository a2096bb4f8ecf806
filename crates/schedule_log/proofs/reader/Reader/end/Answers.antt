use Rattle.std.proofs.Common.{refl, sym, ap, rules, ◌∙◌}
use Rattle.schedule_log.specs.declared.line.Reading.TheVariants as Reading_is
use Rattle.schedule_log.specs.Findings.{finds}
use Rattle.schedule_log.specs.Grammar.{reading}
use Rattle.schedule_log.proofs.EndLemmas.{left_said, blank_line}
use Rattle.schedule_log.proofs.reader.Reader.end.Goals as goal

pub returns-in-Blank-clause-said : goal.returns-in-Blank-clause-said
returns-in-Blank-clause-said c =
    let r = c.self.inside in
    let is = ap (reading r.harts r.cores) (sym c.as_slice.ensures.value) ∙ sym c.read_whole.ensures ∙ c.in-Blank.is in
    rw (← c.self.view_is) (left_said r.harts r.cores r.ended r.begun.items r.bad Reading_is.Blank c.in_default.is c.self.invariant.0 is)

pub returns-in-Events-clause-said : goal.returns-in-Events-clause-said
returns-in-Events-clause-said c =
    let r = c.self.inside in
    let is = ap (reading r.harts r.cores) (sym c.as_slice.ensures.value) ∙ sym c.read_whole.ensures ∙ c.in-Events.is in
    rw (← c.self.view_is) (left_said r.harts r.cores r.ended r.begun.items r.bad (Reading_is.Events c.in-Events.actor c.in-Events.count) c.in_default.is c.self.invariant.0 is)

pub returns-in-Bad-clause-said : goal.returns-in-Bad-clause-said
returns-in-Bad-clause-said c =
    let r = c.self.inside in
    let is = ap (reading r.harts r.cores) (sym c.as_slice.ensures.value) ∙ sym c.read_whole.ensures ∙ c.in-Bad.is in
    rw (← c.self.view_is) (left_said r.harts r.cores r.ended r.begun.items r.bad (Reading_is.Bad c.in-Bad.why) c.in_default.is c.self.invariant.0 is)

pub returns-in-Blank-clause-nothing : goal.returns-in-Blank-clause-nothing
returns-in-Blank-clause-nothing c =
    let r = c.self.inside in
    let is = ap (reading r.harts r.cores) (sym c.as_slice.ensures.value) ∙ sym c.read_whole.ensures ∙ c.in-Blank.is in
    rw (← c.self.view_is) ((λ _. record { good = c.in_default.is; rest = blank_line r.harts r.cores r.begun.items is }), (λ _. refl))

pub returns-in-Some-clause-said : goal.returns-in-Some-clause-said
unfolding finds
returns-in-Some-clause-said c = search rules
