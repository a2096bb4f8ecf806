use Rattle.std.proofs.Common.{◌≡◌, sym, ap, subst, ◌∙◌, None, Some, true, false}
use Rattle.conda_base.specs.declared.Line.{Line}
use Rattle.bloom_sig.specs.Signatures.{is_full_for}
use Rattle.nda_cache.specs.Tried.{Tried, HasRoom}
use Rattle.portion_ctl.specs.Bodies.{PutsInCache}
use Rattle.portion_ctl.proofs.ExchangeFacts.{Accesses, line-at, store-ends, store-exchanges, store-full}
use Rattle.portion_ctl.proofs.AccessFacts.{end_of_store}
use Rattle.portion_ctl.proofs.exchange.store.Goals as goal

pub returns-in-Full-clause-stores : goal.returns-in-Full-clause-stores
returns-in-Full-clause-stores c t fills trace memory holds =
    let a : Accesses c.args.b.now t fills c.args.addr c.args.size c.line_of-l.result = record {
      parts = c.requires.parts;
      is = c.store_unless.ensures.tried;
      sized = c.requires.size;
      aligned = c.requires.aligned;
      line = line-at c.args.b.now c.line_of-l.result c.args.addr c.requires.parts c.line_of-l.ensures;
      holds = holds;
    } in
    let full = c.in-Full.ensures.stores in (
      store-full c.args.b.now t fills c.args.addr c.args.size c.args.value c.line_of-l.result a (λ room. full.0 (subst (λ (k : Line). HasRoom c.args.b.now.cache k) a.line room)),
      ap (λ (x : Tried). record c.args.b.now { cache = x }) full.1,
    )

pub returns-in-Refused-clause-stores : goal.returns-in-Refused-clause-stores
returns-in-Refused-clause-stores c t fills trace memory holds =
    let a : Accesses c.args.b.now t fills c.args.addr c.args.size c.line_of-l.result = record {
      parts = c.requires.parts;
      is = c.store_unless.ensures.tried;
      sized = c.requires.size;
      aligned = c.requires.aligned;
      line = line-at c.args.b.now c.line_of-l.result c.args.addr c.requires.parts c.line_of-l.ensures;
      holds = holds;
    } in
    let refused = c.in-Refused.ensures.stores in
    let limit : is_full_for c.args.b.now.write_set c.line_of-l.result c.args.b.now.limits.write_limit ≡ true = sym c.is_at_limit-refused.ensures ∙ refused.1 in (
      store-ends c.args.b.now t fills c.args.addr c.args.size c.args.value c.line_of-l.result (Some 6) a (subst (λ (k : Line). HasRoom c.args.b.now.cache k) (sym a.line) refused.0) (sym (ap end_of_store limit)),
      ap (λ (x : Tried). record c.args.b.now { cache = x }) refused.2,
    )

pub returns-in-Done-clause-stores : goal.returns-in-Done-clause-stores
returns-in-Done-clause-stores c t fills trace memory holds =
    let a : Accesses c.args.b.now t fills c.args.addr c.args.size c.line_of-l.result = record {
      parts = c.requires.parts;
      is = c.store_unless.ensures.tried;
      sized = c.requires.size;
      aligned = c.requires.aligned;
      line = line-at c.args.b.now c.line_of-l.result c.args.addr c.requires.parts c.line_of-l.ensures;
      holds = holds;
    } in
    let done = c.in-Done.ensures.stores in
    let limit : is_full_for c.args.b.now.write_set c.line_of-l.result c.args.b.now.limits.write_limit ≡ false = sym c.is_at_limit-refused.ensures ∙ done.1 in
    let puts : PutsInCache c.args.b.now.cache c.store_unless.new.self c.args.addr c.args.size c.args.value = record { is = c.store_unless.ensures.tried; cache = done.2 } in (
      store-ends c.args.b.now t fills c.args.addr c.args.size c.args.value c.line_of-l.result None a (subst (λ (k : Line). HasRoom c.args.b.now.cache k) (sym a.line) done.0) (sym (ap end_of_store limit)),
      store-exchanges memory c.args.b.now t fills c.args.addr c.args.size c.args.value c.line_of-l.result _ _ trace a puts c.insert.ensures,
    )
