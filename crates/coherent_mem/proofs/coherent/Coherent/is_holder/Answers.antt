use Rattle.std.proofs.Common.{ap, sym, ◌∙◌}
use Rattle.std.specs.Option.{is_some}
use Rattle.mesi_directory.specs.declared.row.Row.{Row}
use Rattle.mesi_directory.specs.Rows.{has_holder}
use Rattle.coherent_mem.proofs.TagFacts.{is_some-mapped, state_shown}
use Rattle.coherent_mem.proofs.coherent.Coherent.is_holder.Goals as goal

pub returns : goal.returns
returns c =
    rw (← c.self.view_is)
    (c.has.ensures ∙ ap (λ (r : Row). has_holder r c.args.k) c.row.ensures.value ∙
    (c.self.invariant.1.kept c.args.l (rw (← c.self.view_is) at c.requires.line)).holders c.args.k ∙
    sym (ap is_some (state_shown _ c.self.invariant.1 c.args.l c.args.k) ∙ is_some-mapped _))
