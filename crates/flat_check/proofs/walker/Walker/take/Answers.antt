use Rattle.std.proofs.Common.{◌≡◌, ◌<◌, true, sym, subst, length, ⊎_elim}
use Rattle.std.proofs.lemmas.Bool.{ltb-true}
use Rattle.std.specs.Result.{MatchResult}
use Rattle.schedule_log.specs.declared.entry.Entry.{Entry}
use Rattle.schedule_log.specs.declared.entry.Entry.TheVariants.{Back}
use Rattle.flat_check.specs.Orders.{is_there}
use Rattle.flat_check.specs.Walkers.{ShowsWalk, ruling_of, walker_parts}
use Rattle.flat_check.specs.Tries.{try_parts}
use Rattle.flat_check.proofs.WalkerFacts.{walks-open, walks-spec}
use Rattle.flat_check.specs.Walks.{Fine, ruled, walked}
use Rattle.flat_check.proofs.walker.Walker.take.Goals as goal

pub returns-in-Commit-clause-rules : goal.returns-in-Commit-clause-rules
returns-in-Commit-clause-rules c = λ s v same sh.
    subst (λ (e : Entry). MatchResult c.commit.result (λ x. ruled s v e ≡ Fine) (λ why. ruled s v e ≡ ruling_of why)) (sym c.in-Commit.is)
    (c.commit.ensures.rules s v c.in-Commit.field-2 same sh)

pub returns-in-Back-clause-rules : goal.returns-in-Back-clause-rules
returns-in-Back-clause-rules c = λ s v same sh.
    let there : is_there (length c.args.self.now.flat.harts.items) (length c.args.self.now.flat.statuses.items) (Back c.in-Back.j c.in-Back.n c.in-Back.field-2) ≡ true =
    subst (λ (e : Entry). is_there (length c.args.self.now.flat.harts.items) (length c.args.self.now.flat.statuses.items) e ≡ true) c.in-Back.is c.requires.there in
    let here : c.in-Back.j < s.cores = subst (λ n. c.in-Back.j < n) sh.flat.many_statuses (ltb-true c.in-Back.j (length c.args.self.now.flat.statuses.items) there) in
    subst (λ (e : Entry). MatchResult c.take_back.result (λ x. ruled s v e ≡ Fine) (λ why. ruled s v e ≡ ruling_of why)) (sym c.in-Back.is)
    (c.take_back.ensures.rules s v c.in-Back.field-2 here sh)

pub returns-in-Spec-clause-fits : goal.returns-in-Spec-clause-fits
returns-in-Spec-clause-fits c = record {
  flat = c.requires.fits.flat;
  tries = c.count.ensures.fits c.args.code.now (length c.args.self.now.flat.statuses.items) c.requires.fits.tries;
}

pub returns-in-Open-clause-fits : goal.returns-in-Open-clause-fits
returns-in-Open-clause-fits c = record {
  flat = c.requires.fits.flat;
  tries = c.open.ensures.fits c.args.code.now (length c.args.self.now.flat.statuses.items) c.requires.fits.tries;
}

pub returns-in-Spec-clause-walks : goal.returns-in-Spec-clause-walks
returns-in-Spec-clause-walks c = λ s v same sh.
    subst (λ (e : Entry). ShowsWalk s (walker_parts (record { flat = c.args.self.now.flat; tries = c.count.new.self })) (walked s v e)) (sym c.in-Spec.is)
    (record { flat = sh.flat; tries = walks-spec s v (try_parts c.count.new.self) c.in-Spec.j (c.count.ensures.counts s v.tries sh.tries) })

pub returns-in-Open-clause-walks : goal.returns-in-Open-clause-walks
returns-in-Open-clause-walks c = λ s v same sh.
    let opens = walks-open s v (try_parts c.open.new.self) c.in-Open.j (c.open.ensures.opens s v.tries sh.tries) in
    ⊎_elim
    (λ is. subst (λ (e : Entry). ShowsWalk s (walker_parts (record { flat = c.args.self.now.flat; tries = c.open.new.self })) (walked s v e)) (sym is) (record { flat = sh.flat; tries = opens }))
    (λ is. subst (λ (e : Entry). ShowsWalk s (walker_parts (record { flat = c.args.self.now.flat; tries = c.open.new.self })) (walked s v e)) (sym is) (record { flat = sh.flat; tries = opens }))
    c.in-Open.is
