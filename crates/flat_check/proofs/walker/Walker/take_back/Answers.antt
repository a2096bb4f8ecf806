use Rattle.std.proofs.Common.{ap, length}
use Rattle.flat_check.specs.Tries.{try_parts}
use Rattle.flat_check.proofs.TryFacts.{all-fit-as, fits-closed}
use Rattle.flat_check.proofs.WalkerFacts.{walks-back}
use Rattle.flat_check.proofs.walker.Walker.take_back.Goals as goal

pub returns-clause-fits : goal.returns-clause-fits
returns-clause-fits c = λ code fits. record {
  flat = fits.flat;
  tries =
      fits-closed code (length c.args.self.now.flat.statuses.items) (try_parts c.args.self.now.tries) (try_parts c.close.new.self) c.args.j c.close.ensures.acts
      (ap (λ ms. length ms.items) c.close.ensures.marks)
      (all-fit-as c.close.new.self.marks.items c.args.self.now.tries.marks.items code (ap (λ ms. ms.items) c.close.ensures.marks) fits.tries.fit) fits.tries;
}

pub returns-clause-walks : goal.returns-clause-walks
returns-clause-walks c = λ s v cause here sh. record {
  flat = sh.flat;
  tries =
      walks-back s v (try_parts c.args.self.now.tries) (try_parts c.close.new.self) c.args.j c.args.n cause sh.tries c.close.ensures.acts
      (ap (λ ms. ms.items) c.close.ensures.marks);
}
