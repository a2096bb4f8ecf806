use Rattle.std.proofs.Common.{sym, subst}
use Rattle.line_memory.specs.Backing.{BackingView}
use Rattle.bloom_sig.specs.Images.{IsImage}
use Rattle.portion_ctl.specs.Views.{OpenView}
use Rattle.portion_ctl.specs.Stands.{IsOpen, StandsFor}
use Rattle.portion_ctl.specs.Walks.{foreign_lines}
use Rattle.portion_ctl.proofs.StandFacts.{opened-foreign, opened-open, opened-stands}
use Rattle.portion_ctl.proofs.portion.Ready.open.Goals as goal

pub returns-clause-opens : goal.returns-clause-opens
returns-clause-opens g c =
    let memory : BackingView = g.B.Backing.shown c.args.mem.now in
    let P : OpenView → Type 0 = λ o. IsImage o.foreign_set (foreign_lines c.args.locked memory) in
    record {
      opened = c.begin.ensures.opened;
      foreign = subst P (sym c.begin.ensures.opened) (opened-foreign c.args.self c.args.locked memory c.begin.ensures.limits);
      flushes = c.begin.ensures.memory;
      notes = c.begin.ensures.notes;
      backing = c.begin.ensures.backing;
    }

pub returns-clause-stands : goal.returns-clause-stands
returns-clause-stands g c code fills =
    let P : OpenView → Type 0 = λ o. StandsFor code o (record { regs = c.args.self.regs; fills = fills; acts = 0 }) in
    subst P (sym c.begin.ensures.opened) (opened-stands code c.args.self c.args.locked (g.B.Backing.shown c.args.mem.now) fills c.begin.ensures.limits.bits.1)

pub returns-clause-kept : goal.returns-clause-kept
returns-clause-kept g c =
    let P : OpenView → Type 0 = λ o. IsOpen o in
    subst P (sym c.begin.ensures.opened) (opened-open c.args.self c.args.locked (g.B.Backing.shown c.args.mem.now) c.begin.ensures.limits)
