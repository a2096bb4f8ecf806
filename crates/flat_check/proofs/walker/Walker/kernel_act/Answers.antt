use Rattle.std.proofs.Common.{◌≡◌, ◌∙◌, refl, sym, ap, subst, length, List}
use Rattle.std.specs.Vec.{with_items}
use Rattle.std.proofs.lemmas.List.{with_items_is}
use Rattle.flat_check.specs.Marks.{Marked}
use Rattle.flat_check.specs.Portions.{MarksBeside}
use Rattle.flat_check.specs.Flats.{flat_parts}
use Rattle.flat_check.specs.Walkers.{walker_parts}
use Rattle.flat_check.proofs.TryFacts.{all-fit-as}
use Rattle.flat_check.proofs.WalkerFacts.{walks-kern}
use Rattle.flat_check.proofs.walker.Walker.kernel_act.Goals as goal

pub mark_beside-requires-clause-marks : goal.mark_beside-requires-clause-marks
mark_beside-requires-clause-marks c =
    all-fit-as c.deref_mut.result.now c.args.self.now.tries.marks.items c.args.code.now c.deref_mut.ensures.value c.requires.fits.tries.fit

marks_are : (c : goal.After-self-1) → (with_items c.args.self.now.tries.marks c.mark_beside.new.marks).items ≡ c.mark_beside.new.marks
marks_are c = with_items_is c.args.self.now.tries.marks c.mark_beside.new.marks (c.mark_beside.auto.marks ∙ c.deref_mut.ensures.len)

pub returns-clause-walks : goal.returns-clause-walks
returns-clause-walks c = λ s v same sh.
    walks-kern s c.args.code.now (walker_parts c.args.self.now) (record {
      flat = flat_parts c.kernel_act-access.new.self;
      tries = record { acts = c.args.self.now.tries.acts.items; marks = (with_items c.args.self.now.tries.marks c.mark_beside.new.marks).items };
    }) v c.args.j c.kernel_act-access.result same sh
    (c.kernel_act-access.ensures.acts s v.flat same sh.flat) refl (ap length (marks_are c) ∙ c.mark_beside.auto.marks ∙ ap length c.deref_mut.ensures.value)
    (subst (λ (ms : List Marked). MarksBeside c.args.self.now.tries.marks.items ms c.args.code.now.base c.args.j c.kernel_act-access.result) (sym (marks_are c))
    (subst (λ (ms : List Marked). MarksBeside ms c.mark_beside.new.marks c.args.code.now.base c.args.j c.kernel_act-access.result) c.deref_mut.ensures.value c.mark_beside.ensures.marks))

pub returns-clause-fits : goal.returns-clause-fits
returns-clause-fits c = record {
  flat = c.kernel_act-access.ensures.fits;
  tries = record {
    acts = c.requires.fits.tries.acts ∙ sym c.kernel_act-access.ensures.cores;
    marks = ap length (marks_are c) ∙ c.mark_beside.auto.marks ∙ ap length c.deref_mut.ensures.value ∙ c.requires.fits.tries.marks ∙ sym c.kernel_act-access.ensures.cores;
    fit = all-fit-as (with_items c.args.self.now.tries.marks c.mark_beside.new.marks).items c.mark_beside.new.marks c.args.code.now (marks_are c) c.mark_beside.ensures.kept;
  };
}
