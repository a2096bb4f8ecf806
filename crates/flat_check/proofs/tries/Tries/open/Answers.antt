use Rattle.std.proofs.Common.{◌∙◌, refl, sym, ap, subst, length, set, [], Some}
use Rattle.std.proofs.lemmas.List.{length-set}
use Rattle.flat_check.specs.Marks.{Marked}
use Rattle.flat_check.specs.Portions.{marks_at, no_marked}
use Rattle.flat_check.specs.Tries.{MarksTry, try_parts}
use Rattle.flat_check.proofs.MarkFacts.{any_default}
use Rattle.flat_check.proofs.TryFacts.{all-fit-set, changed-one, fits-room, marks_at-set_same, marks_at-set_other, no_marks-try}
use Rattle.flat_check.proofs.tries.Tries.open.Goals as goal

pub returns-clause-opens : goal.returns-clause-opens
returns-clause-opens c = λ s tries sh.
    changed-one s (try_parts c.args.self.now) (record { acts = set c.args.self.now.acts.items c.args.j (Some 0); marks = set c.args.self.now.marks.items c.args.j c.clear.new.self }) tries c.args.j (Some (record { acts = 0; stored = [] })) (Some 0) sh
    (length-set c.args.self.now.marks.items c.args.j c.clear.new.self) refl refl
    (subst (λ (m : Marked). MarksTry s.code.base m (Some (record { acts = 0; stored = [] })))
    (sym (marks_at-set_same c.args.self.now.marks.items c.args.j c.clear.new.self c.requires.marks))
    (no_marks-try s.code.base c.clear.new.self c.clear.ensures.none))
    (λ i other. marks_at-set_other c.args.self.now.marks.items c.args.j i c.clear.new.self other)

pub returns-clause-fits : goal.returns-clause-fits
returns-clause-fits c = λ code cores fits. record {
  acts = length-set c.args.self.now.acts.items c.args.j (Some 0) ∙ fits.acts;
  marks = length-set c.args.self.now.marks.items c.args.j c.clear.new.self ∙ fits.marks;
  fit = all-fit-set c.args.self.now.marks.items c.args.j c.clear.new.self code fits.fit
      (fits-room (marks_at c.args.self.now.marks.items c.args.j) c.clear.new.self code
      (c.clear.ensures.room
      ∙ ap (λ (m : Marked). length m.blocks)
      (c.index_mut-own.ensures.value ∙ any_default c.args.self.now.marks.items c.args.j c.index_mut-own.result.now no_marked c.requires.marks))
      (fits.fit c.args.j c.requires.marks));
}
