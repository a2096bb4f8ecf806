use Rattle.std.proofs.Common.{inr, sym, ◌∙◌, ◌≡◌, true, false}
use Rattle.serde_json.specs.View.{view}
use Rattle.chip_config.proofs.JudgingLemmas.{configured_is, err_is, not_json, ok_is}
use Rattle.chip_config.proofs.reading.read.Goals as goal

pub returns-in-Ok-clause-ok : goal.returns-in-Ok-clause-ok
returns-in-Ok-clause-ok c =
    let text = c.in-Ok.ensures.ok in
    ok_is c.args.bytes.now (view c.in-Ok.value) c.read_value.result (configured_is c.args.bytes.now (view c.in-Ok.value) text.0 text.1) c.read_value.ensures

pub returns-in-Ok-clause-err : goal.returns-in-Ok-clause-err
returns-in-Ok-clause-err c =
    let text = c.in-Ok.ensures.ok in
    err_is c.args.bytes.now (view c.in-Ok.value) c.read_value.result (configured_is c.args.bytes.now (view c.in-Ok.value) text.0 text.1) c.read_value.ensures

pub returns-in-Err-2-clause-err : goal.returns-in-Err-2-clause-err
returns-in-Err-2-clause-err c =
    let in_memory : (c.is_memory.result ≡ true) → ⊥ = λ is. let never : false ≡ true = sym c.if-is_memory.false ∙ is in cc in
    inr (not_json c.args.bytes.now (c.in-Err.ensures.err (λ memory. in_memory (c.is_memory.ensures.1 memory))))
