use Rattle.std.proofs.Common.{◌≡◌, ◌+◌, ◌<◌, ◌∷◌, length, sym, ◌∙◌, ap, subst, arith}
use Rattle.std.specs.Prelude.{option_map}
use Rattle.std.proofs.lemmas.Bool.{eqb-true}
use Rattle.rv32_asm.specs.declared.place.Place.{Place}
use Rattle.rv32_asm.specs.Assembled.{said_of, words_by}
use Rattle.rv32_asm.specs.Views.{line_view}
use Rattle.rv32_asm.specs.Integers.{IsAmountOf}
use Rattle.rv32_asm.specs.Sources.{source_in}
use Rattle.rv32_asm.proofs.ProgramLemmas.{assembled_is}
use Rattle.rv32_asm.proofs.LinesLemmas.{source_cut, source_none, words_few}
use Rattle.rv32_asm.proofs.AssembleLemmas.{source_says, bad_step, bad_found, bad_end, good_end, in_range_of_good, words_step, words_end}
use Rattle.rv32_asm.proofs.assembling.assemble.Goals as goal

pub returns-in-Some-clause-fault : goal.returns-in-Some-clause-fault
returns-in-Some-clause-fault c =
    let all = source_in c.args.text.now in
    let said = option_map line_view c.read_line-said.result in
    let after = c.take_line.result.1.now in
    let cut : source_in c.pass.rest.now ≡ said ∷ source_in after =
    source_cut c.pass.rest.now c.take_line.result.0.now after c.take_line.ensures.cut
    ∙ ap (λ s. s ∷ source_in after) (sym c.read_line-said.ensures.value) in
    let statement = c.statement_of-statement.ensures in
    let amount = subst (IsAmountOf c.amount_of-amount.result all c.pass.place) statement (c.amount_of-amount.ensures all c.in_ok-survey.ensures.labels) in
    record {
      source = all;
      says = source_says c.args.text.now;
      first = bad_found all c.pass.place said (source_in c.pass.rest.now) (source_in after) _ c.in-Some.why cut
          (sym (c.in-Some.ensures all c.in_ok-survey.ensures.labels c.in_ok-survey.ensures.address amount)) c.pass.invariant.bad;
    }

pub returns-then-place-eq0-clause-fault : goal.returns-then-place-eq0-clause-fault
returns-then-place-eq0-clause-fault c =
    let end = source_none c.pass.rest.now (eqb-true (length c.pass.rest.now) 0 (sym c.pass-test.ensures)) in
    record {
      source = source_in c.args.text.now;
      says = source_says c.args.text.now;
      first = bad_end (source_in c.args.text.now) c.pass.place (source_in c.pass.rest.now) _ end c.if-place-eq0.true c.pass.invariant.bad;
    }

pub returns-clause-program : goal.returns-clause-program
returns-clause-program c =
    let end = source_none c.pass.rest.now (eqb-true (length c.pass.rest.now) 0 (sym c.pass-test.ensures)) in
    let some : 0 < c.pass.place.words = omega arith in
    record {
      source = source_in c.args.text.now;
      says = source_says c.args.text.now;
      good = good_end (source_in c.args.text.now) c.pass.place (source_in c.pass.rest.now) _ end some c.pass.invariant.bad;
      at_is = sym c.in_ok-survey.ensures.address;
      words_are = words_end (source_in c.args.text.now) c.pass.place (source_in c.pass.rest.now) c.pass.words.items _ end c.pass.invariant.words;
    }

pub returns-clause-fits : goal.returns-clause-fits
returns-clause-fits c = assembled_is c.args.text.now _ _ (returns-clause-program c)

pub pass-preserved : goal.pass-preserved
pass-preserved c =
    let all = source_in c.args.text.now in
    let said = option_map line_view c.read_line-said.result in
    let after = c.take_line.result.1.now in
    let cut : source_in c.pass.rest.now ≡ said ∷ source_in after =
    source_cut c.pass.rest.now c.take_line.result.0.now after c.take_line.ensures.cut
    ∙ ap (λ s. s ∷ source_in after) (sym c.read_line-said.ensures.value) in
    let labels = c.in_ok-survey.ensures.labels in
    let statement = c.statement_of-statement.ensures in
    let amount = c.amount_of-amount.ensures all labels in
    let fine = sym (c.in-None.ensures all labels c.in_ok-survey.ensures.address (subst (IsAmountOf c.amount_of-amount.result all c.pass.place) statement amount)) in
    let fits = in_range_of_good all c.pass.place said fine in
    let few = words_few (said_of said) in
    let shorter = c.take_line.ensures.shorter in
    let lines = c.pass.invariant.line in
    let count = c.pass.invariant.count in
    let line_is : c.next_place-place.result.line ≡ c.pass.place.line + 1 = ap (λ (p : Place). p.line) c.next_place-place.ensures in
    let words_are : c.next_place-place.result.words ≡ c.pass.place.words + words_by (said_of said) = ap (λ (p : Place). p.words) c.next_place-place.ensures in
    record {
      bad = bad_step all c.pass.place c.next_place-place.result said (source_in c.pass.rest.now) (source_in after) _ cut fine c.next_place-place.ensures c.pass.invariant.bad;
      words = words_step all c.pass.place c.next_place-place.result said _ (source_in c.pass.rest.now) (source_in after) c.pass.words.items _ _ _
          cut statement (c.line_word.ensures all c.pass.place amount (rw statement fits)) c.next_place-place.ensures c.in_ok-push_word.ensures c.pass.invariant.words;
      line = omega arith;
      count = omega arith;
    }
