use Rattle.std.proofs.Common.{ap, subst, ◌∙◌}
use Rattle.portion_ctl.specs.States.{IsUndoneOf}
use Rattle.conflict_resolve.specs.Backs.{due_count}
use Rattle.conflict_resolve.proofs.BackFacts.{backs}
use Rattle.conflict_resolve.proofs.undoing.back.Goals as goal

pub returns-clause-undone : goal.returns-clause-undone
returns-clause-undone g c =
    let b = g.B.Backing.shown c.args.mem.now in
    subst (λ due. IsUndoneOf c.args.c due c.undo.result)
    (c.due_lines-due.ensures ∙ ap (λ reads. due_count reads b) c.reads.ensures.signature) c.undo.ensures.undone

pub returns-clause-backs : goal.returns-clause-backs
returns-clause-backs g c code p stands =
    let b = g.B.Backing.shown c.args.mem.now in
    backs code b c.args.c p c.undo.result stands
    (subst (λ due. IsUndoneOf c.args.c due c.undo.result)
    (c.due_lines-due.ensures ∙ ap (λ reads. due_count reads b) c.reads.ensures.signature) c.undo.ensures.undone)
