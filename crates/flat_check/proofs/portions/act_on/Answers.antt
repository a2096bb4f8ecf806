use Rattle.std.proofs.Common.{◌+◌, ◌∙◌, suc, sym, ap, subst, set}
use Rattle.std.proofs.lemmas.List.{length-set}
use Rattle.flat_check.specs.Marks.{Marked}
use Rattle.flat_check.specs.Portions.{FitsImage, HasActed, Unmarks, lowest_loaded, marks_at, no_marked}
use Rattle.flat_check.proofs.MarkFacts.{any_default}
use Rattle.flat_check.proofs.StepFacts.{acted_more, acted_none}
use Rattle.flat_check.proofs.TryFacts.{all-fit-set, marks_at-set_same, marks_at-set_other}
use Rattle.flat_check.proofs.portions.act_on.Goals as goal

pub returns-then-not-is_running_core-clause-acts :
    goal.returns-then-not-is_running_core-clause-acts
returns-then-not-is_running_core-clause-acts c =
    λ s f k stored before same many h.
    acted_none s f c.args.j k stored before c.args.memory.now c.args.core.now c.args.marks.now c.args.found.lowest c.args.found.puts
    (sym c.is_running_core.ensures ∙ c.if-not-is_running_core.true) h

pub take_access-lowest-requires-clause-marks : goal.take_access-lowest-requires-clause-marks
take_access-lowest-requires-clause-marks c =
    subst (λ (m : Marked). FitsImage m c.args.code.now) (any_default c.args.marks.now c.args.j no_marked c.index-marks-j.result c.requires.there) (c.requires.marks c.args.j c.requires.there)

pub mark_beside-requires-clause-marks : goal.mark_beside-requires-clause-marks
mark_beside-requires-clause-marks c =
    all-fit-set c.args.marks.now c.args.j c.take_access-lowest.new.marks c.args.code.now c.requires.marks c.take_access-lowest.ensures.kept

pub returns-clause-acts : goal.returns-clause-acts
returns-clause-acts c =
    let own = any_default c.args.marks.now c.args.j c.index-marks-j.result no_marked c.requires.there in
    λ s f k stored before same many h.
    subst (λ n. HasActed s f c.args.j (suc k) stored before c.core_act-act.new.memory c.core_act-act.new.core c.mark_beside.new.marks c.lower.result (c.args.found.puts + n)) (sym c.count_of.ensures)
    (acted_more s f c.args.j k stored before c.args.memory.now c.args.core.now c.args.marks.now c.args.found.lowest c.args.found.puts
    c.core_act-act.new.memory c.core_act-act.new.core (set c.args.marks.now c.args.j c.take_access-lowest.new.marks) c.mark_beside.new.marks
    c.take_access-lowest.result c.lower.result c.core_act-act.result.access c.core_act-act.result.put c.args.code.now same
    (record {
      runs = sym c.is_running_core.ensures ∙ c.if-not-is_running_core.false;
      core_is = c.core_act-act.ensures.core;
      memory_is = c.core_act-act.ensures.memory;
      access_is = c.core_act-act.ensures.access;
      puts_are = c.core_act-act.ensures.put;
      fits = c.core_act-act.ensures.fits;
    })
    h
    (c.take_access-lowest.ensures.lowest ∙ ap (λ (m : Marked). lowest_loaded m c.args.code.now.base c.core_act-act.result.access) own)
    (subst (λ (m : Marked). Unmarks (marks_at c.args.marks.now c.args.j) m c.args.code.now.base c.core_act-act.result.access)
    (sym (marks_at-set_same c.args.marks.now c.args.j c.take_access-lowest.new.marks c.requires.there))
    (subst (λ (m : Marked). Unmarks m c.take_access-lowest.new.marks c.args.code.now.base c.core_act-act.result.access) own c.take_access-lowest.ensures.unmarks))
    (λ i other. marks_at-set_other c.args.marks.now c.args.j i c.take_access-lowest.new.marks other)
    (length-set c.args.marks.now c.args.j c.take_access-lowest.new.marks ∙ many)
    c.mark_beside.ensures.marks c.lower.ensures)
