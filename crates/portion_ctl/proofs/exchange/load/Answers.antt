use Rattle.std.proofs.Common.{refl, sym, ap, subst, None, Some}
use Rattle.conda_base.specs.declared.Line.{Line}
use Rattle.nda_cache.specs.Tried.{IsFound}
use Rattle.nda_cache.specs.declared.cache.Look.TheVariants.{Known, Missing, Full}
use Rattle.bloom_sig.specs.Signatures.{Sets}
use Rattle.portion_ctl.specs.Looks.{end_of_load}
use Rattle.portion_ctl.proofs.ExchangeFacts.{Accesses, line-at, load-ends, load-exchanges, load-parts, refused-up_to, taken-up_to}
use Rattle.portion_ctl.proofs.exchange.load.Goals as goal

pub returns-in-Known-clause-loads : goal.returns-in-Known-clause-loads
returns-in-Known-clause-loads g c signed rd t fills holds =
    let a : Accesses c.args.b.now t fills c.args.addr c.args.size c.line_of-l.result = record {
      parts = c.requires.parts;
      is = c.in-Known.ensures.kept;
      sized = c.requires.access.sized;
      aligned = c.requires.access.aligned;
      line = line-at c.args.b.now c.line_of-l.result c.args.addr c.requires.parts c.line_of-l.ensures;
      holds = holds;
    } in (
      load-ends c.args.b.now t fills c.args.addr c.args.size c.line_of-l.result (Known c.in-Known.value) None signed rd a c.in-Known.ensures.looks refl,
      load-exchanges (g.B.Backing.shown c.args.mem.now) c.args.b.now t fills c.args.addr c.args.size c.line_of-l.result (Known c.in-Known.value) _ _ _ c.args.log.now _ signed rd a c.in-Known.ensures.looks (refl, refl, refl) refl,
    )

pub returns-in-Full-clause-loads : goal.returns-in-Full-clause-loads
returns-in-Full-clause-loads g c signed rd t fills holds =
    let a : Accesses c.args.b.now t fills c.args.addr c.args.size c.line_of-l.result = record {
      parts = c.requires.parts;
      is = c.in-Full.ensures.kept;
      sized = c.requires.access.sized;
      aligned = c.requires.access.aligned;
      line = line-at c.args.b.now c.line_of-l.result c.args.addr c.requires.parts c.line_of-l.ensures;
      holds = holds;
    } in
    (load-ends c.args.b.now t fills c.args.addr c.args.size c.line_of-l.result Full (Some 4) signed rd a c.in-Full.ensures.looks refl, refl, refl)

pub returns-then-not-insert_up_to-clause-loads : goal.returns-then-not-insert_up_to-clause-loads
returns-then-not-insert_up_to-clause-loads g c signed rd t fills holds =
    let a : Accesses c.args.b.now t fills c.args.addr c.args.size c.line_of-l.result = record {
      parts = c.requires.parts;
      is = c.in-Missing.ensures.kept;
      sized = c.requires.access.sized;
      aligned = c.requires.access.aligned;
      line = line-at c.args.b.now c.line_of-l.result c.args.addr c.requires.parts c.line_of-l.ensures;
      holds = holds;
    } in
    let refused = refused-up_to c.args.b.now.read_set c.insert_up_to.new.self c.line_of-l.result c.args.b.now.limits.read_limit c.insert_up_to.result c.insert_up_to.ensures.sets c.insert_up_to.ensures.answer c.if-not-insert_up_to.true in (
      load-ends c.args.b.now t fills c.args.addr c.args.size c.line_of-l.result Missing (Some 5) signed rd a c.in-Missing.ensures.looks (sym (ap (end_of_load Missing) refused.0)),
      ap (λ (s : Sets). record c.args.b.now { read_set = s }) refused.1,
      refl,
    )

pub returns-else-not-insert_up_to-clause-loads : goal.returns-else-not-insert_up_to-clause-loads
returns-else-not-insert_up_to-clause-loads g c signed rd t fills holds =
    let a : Accesses c.args.b.now t fills c.args.addr c.args.size c.line_of-l.result = record {
      parts = c.requires.parts;
      is = c.in-Missing.ensures.kept;
      sized = c.requires.access.sized;
      aligned = c.requires.access.aligned;
      line = line-at c.args.b.now c.line_of-l.result c.args.addr c.requires.parts c.line_of-l.ensures;
      holds = holds;
    } in
    let taken = taken-up_to c.args.b.now.read_set c.insert_up_to.new.self c.line_of-l.result c.args.b.now.limits.read_limit c.insert_up_to.result c.insert_up_to.ensures.sets c.insert_up_to.ensures.answer c.if-not-insert_up_to.false in (
      load-ends c.args.b.now t fills c.args.addr c.args.size c.line_of-l.result Missing None signed rd a c.in-Missing.ensures.looks (sym (ap (end_of_load Missing) taken.0)),
      load-exchanges (g.B.Backing.shown c.args.mem.now) c.args.b.now t fills c.args.addr c.args.size c.line_of-l.result Missing c.fetch.new.cache c.insert_up_to.new.self c.fetch.result.value c.args.log.now _ signed rd a c.in-Missing.ensures.looks
          (c.fetch.ensures.cache, taken.1, c.fetch.ensures.value) c.fetch.ensures.notes,
    )

pub returns-else-not-insert_up_to-clause-parts : goal.returns-else-not-insert_up_to-clause-parts
returns-else-not-insert_up_to-clause-parts g c =
    let taken = taken-up_to c.args.b.now.read_set c.insert_up_to.new.self c.line_of-l.result c.args.b.now.limits.read_limit c.insert_up_to.result c.insert_up_to.ensures.sets c.insert_up_to.ensures.answer c.if-not-insert_up_to.false in
    load-parts (g.B.Backing.shown c.args.mem.now) c.args.b.now c.line_of-l.result c.args.addr c.args.size c.fetch.new.cache c.insert_up_to.new.self c.fetch.result.value c.requires.parts
    (c.fetch.ensures.cache, taken.1, c.fetch.ensures.value)

pub look_found-requires-clause-found : goal.look_found-requires-clause-found
look_found-requires-clause-found g c =
    let P : Line → Type 0 = λ k. IsFound c.args.b.now.cache k c.find-found.result in
    subst P (line-at c.args.b.now c.line_of-l.result c.args.addr c.requires.parts c.line_of-l.ensures) c.find-found.ensures.found
