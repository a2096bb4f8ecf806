use Rattle.std.proofs.Common.{◌≡◌, ◌+◌, ◌∷◌, length, sym, ◌∙◌, ap, arith}
use Rattle.std.specs.Prelude.{option_map}
use Rattle.std.proofs.lemmas.Bool.{eqb-true}
use Rattle.rv32_asm.specs.declared.place.Place.{Place}
use Rattle.rv32_asm.specs.Assembled.{address_of, said_of, words_by}
use Rattle.rv32_asm.specs.Views.{line_view}
use Rattle.rv32_asm.specs.Labels.{place_in}
use Rattle.rv32_asm.specs.Sources.{source_in}
use Rattle.rv32_asm.proofs.LinesLemmas.{source_cut, source_none, label_step, label_end, address_step, address_end, or_value, words_few}
use Rattle.rv32_asm.proofs.survey.survey_of.Goals as goal

pub pass-preserved : goal.pass-preserved
pass-preserved c =
    let said = option_map line_view c.read_line-said.result in
    let after = c.take_line.result.1.now in
    let cut : source_in c.pass.rest.now ≡ said ∷ source_in after =
    source_cut c.pass.rest.now c.take_line.result.0.now after c.take_line.ensures.cut
    ∙ ap (λ s. s ∷ source_in after) (sym c.read_line-said.ensures.value) in
    let few = words_few (said_of said) in
    let shorter = c.take_line.ensures.shorter in
    let lines = c.pass.invariant.line in
    let words = c.pass.invariant.words in
    let line_is : c.next_place-place.result.line ≡ c.pass.place.line + 1 = ap (λ (p : Place). p.line) c.next_place-place.ensures in
    let words_are : c.next_place-place.result.words ≡ c.pass.place.words + words_by (said_of said) = ap (λ (p : Place). p.words) c.next_place-place.ensures in
    record {
      labels = λ q. label_step (place_in c.pass.labels q) _ c.pass.place c.next_place-place.result said _ (source_in c.pass.rest.now) (source_in after) q _
          c.label_of.ensures (c.in_ok-add_label.ensures q) cut c.next_place-place.ensures (c.pass.invariant.labels q);
      address = address_step c.pass.address c.address_after-address.result _ said (source_in c.pass.rest.now) (source_in after) _
          c.statement_of.ensures (c.address_after-address.ensures (address_of (source_in after))) cut c.pass.invariant.address;
      line = omega arith;
      words = omega arith;
    }

pub returns-clause-labels : goal.returns-clause-labels
returns-clause-labels c q =
    label_end (place_in c.pass.labels q) c.pass.place (source_in c.pass.rest.now) q _
    (source_none c.pass.rest.now (eqb-true (length c.pass.rest.now) 0 (sym c.pass-test.ensures))) (c.pass.invariant.labels q)

pub returns-clause-address : goal.returns-clause-address
returns-clause-address c =
    c.unwrap_or.ensures ∙ or_value c.pass.address
    ∙ address_end c.pass.address (source_in c.pass.rest.now) _
    (source_none c.pass.rest.now (eqb-true (length c.pass.rest.now) 0 (sym c.pass-test.ensures))) c.pass.invariant.address
