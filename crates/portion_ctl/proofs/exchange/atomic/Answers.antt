use Rattle.std.proofs.Common.{refl, sym, ap, ◌∙◌, subst, ℕ, Option, None, Some}
use Rattle.conda_base.specs.declared.Line.{Line}
use Rattle.nda_cache.specs.Tried.{IsFound}
use Rattle.bloom_sig.specs.Signatures.{Sets, is_full_for}
use Rattle.portion_ctl.specs.Bodies.{PutsInCache}
use Rattle.portion_ctl.proofs.ExchangeFacts.{Accesses, atomic-ends, atomic-exchanges, atomic-parts, line-at, refused-up_to, taken-room, taken-up_to}
use Rattle.portion_ctl.proofs.AccessFacts.{end_of_store, or_else}
use Rattle.portion_ctl.proofs.exchange.atomic.Goals as goal

pub returns-in-Some-clause-changed : goal.returns-in-Some-clause-changed
returns-in-Some-clause-changed g c rd t fills holds =
    let a : Accesses c.args.b.now t fills c.args.addr 4 c.line_of-l.result = record {
      parts = c.requires.parts;
      is = c.look_found-look.ensures.kept;
      sized = c.requires.access.sized;
      aligned = c.requires.access.aligned;
      line = line-at c.args.b.now c.line_of-l.result c.args.addr c.requires.parts c.line_of-l.ensures;
      holds = holds;
    } in
    let later : Option ℕ = end_of_store (is_full_for c.args.b.now.write_set c.line_of-l.result c.args.b.now.limits.write_limit) in
    (atomic-ends c.args.b.now t fills c.args.addr c.args.op rd c.args.value c.line_of-l.result c.look_found-look.result c.load_end.result later a c.look_found-look.ensures.looks c.load_end.ensures refl ∙ ap (λ o. or_else o later) c.in-Some.is, refl, refl)

pub returns-then-not-insert_up_to-clause-changed : goal.returns-then-not-insert_up_to-clause-changed
returns-then-not-insert_up_to-clause-changed g c rd t fills holds =
    let a : Accesses c.args.b.now t fills c.args.addr 4 c.line_of-l.result = record {
      parts = c.requires.parts;
      is = c.look_found-look.ensures.kept;
      sized = c.requires.access.sized;
      aligned = c.requires.access.aligned;
      line = line-at c.args.b.now c.line_of-l.result c.args.addr c.requires.parts c.line_of-l.ensures;
      holds = holds;
    } in
    let refused = refused-up_to c.args.b.now.write_set c.insert_up_to.new.self c.line_of-l.result c.args.b.now.limits.write_limit c.insert_up_to.result c.insert_up_to.ensures.sets c.insert_up_to.ensures.answer c.if-not-insert_up_to.true in (
      atomic-ends c.args.b.now t fills c.args.addr c.args.op rd c.args.value c.line_of-l.result c.look_found-look.result c.load_end.result (Some 6) a c.look_found-look.ensures.looks c.load_end.ensures (sym (ap end_of_store refused.0)) ∙ ap (λ o. or_else o (Some 6)) c.in_default.is,
      ap (λ (s : Sets). record c.args.b.now { write_set = s }) refused.1,
      refl,
    )

pub put-requires-clause-room : goal.put-requires-clause-room
put-requires-clause-room g c =
    taken-room (g.B.Backing.shown c.args.mem.now) c.args.b.now.cache c.args.b.now.read_set c.line_of-l.result c.args.addr 4 c.look_found-look.result _ _ _
    (line-at c.args.b.now c.line_of-l.result c.args.addr c.requires.parts c.line_of-l.ensures) c.look_found-look.ensures.looks c.take-taken.ensures.takes

pub returns-clause-changed : goal.returns-clause-changed
returns-clause-changed g c rd t fills holds =
    let a : Accesses c.args.b.now t fills c.args.addr 4 c.line_of-l.result = record {
      parts = c.requires.parts;
      is = c.look_found-look.ensures.kept;
      sized = c.requires.access.sized;
      aligned = c.requires.access.aligned;
      line = line-at c.args.b.now c.line_of-l.result c.args.addr c.requires.parts c.line_of-l.ensures;
      holds = holds;
    } in
    let taken = taken-up_to c.args.b.now.write_set c.insert_up_to.new.self c.line_of-l.result c.args.b.now.limits.write_limit c.insert_up_to.result c.insert_up_to.ensures.sets c.insert_up_to.ensures.answer c.if-not-insert_up_to.false in
    let P : ℕ → Type 0 = λ n. PutsInCache c.take-taken.new.cache c.put.new.cache c.args.addr 4 n in (
      atomic-ends c.args.b.now t fills c.args.addr c.args.op rd c.args.value c.line_of-l.result c.look_found-look.result c.load_end.result None a c.look_found-look.ensures.looks c.load_end.ensures (sym (ap end_of_store taken.0)) ∙ ap (λ o. or_else o None) c.in_default.is,
      atomic-exchanges (g.B.Backing.shown c.args.mem.now) c.args.b.now t fills c.args.addr c.args.op rd c.args.value c.line_of-l.result c.look_found-look.result c.take-taken.new.cache _ _ _ c.take-taken.result.value
          c.args.log.now _ a c.look_found-look.ensures.looks c.take-taken.ensures.takes c.take-taken.ensures.notes (subst P c.amo_result-word.ensures c.put.ensures) taken.1,
    )

pub returns-clause-parts : goal.returns-clause-parts
returns-clause-parts g c =
    let taken = taken-up_to c.args.b.now.write_set c.insert_up_to.new.self c.line_of-l.result c.args.b.now.limits.write_limit c.insert_up_to.result c.insert_up_to.ensures.sets c.insert_up_to.ensures.answer c.if-not-insert_up_to.false in
    atomic-parts (g.B.Backing.shown c.args.mem.now) c.args.b.now c.line_of-l.result c.args.addr c.amo_result-word.result c.look_found-look.result c.take-taken.new.cache c.put.new.cache _ _ c.take-taken.result.value
    c.requires.parts c.take-taken.ensures.takes c.put.ensures taken.1

pub look_found-look-requires-clause-found : goal.look_found-look-requires-clause-found
look_found-look-requires-clause-found g c =
    let P : Line → Type 0 = λ k. IsFound c.args.b.now.cache k c.find-found.result in
    subst P (line-at c.args.b.now c.line_of-l.result c.args.addr c.requires.parts c.line_of-l.ensures) c.find-found.ensures.found
