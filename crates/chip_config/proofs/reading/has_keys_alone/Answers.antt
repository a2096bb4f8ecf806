use Rattle.std.proofs.Common.{◌≡◌, ◌∷◌, ap, sym, ◌∙◌, true, false}
use Rattle.std.specs.Prelude.{string_bytes}
use Rattle.chip_config.specs.Keys.{is_key}
use Rattle.chip_config.proofs.ReadingLemmas.{are_names, name_is, names_of_members}
use Rattle.chip_config.proofs.reading.has_keys_alone.Goals as goal

pub loop-name-init : goal.loop-name-init
loop-name-init c =
    ap are_names (c.into_iter-name-iterator.ensures.into_iter_gives ∙ c.keys-name-items.ensures.rest) ∙ names_of_members c.args.members.now.entries

pub returns-then-not-is_name : goal.returns-then-not-is_name
returns-then-not-is_name c =
    let step : c.loop-name.name-iterator ≡ c.in-Some.name.now ∷ c.next.new.self = rw c.in-Some.is at c.next.ensures.steps in
    let is : is_key (string_bytes c.in-Some.name.now) ≡ false = ap is_key (sym c.as_str.ensures.value) ∙ sym (name_is c.args.table.now _ c.requires) ∙ sym c.is_name.ensures ∙ c.if-not-is_name.true in
    rw is at (ap are_names (sym step) ∙ c.loop-name.invariant)

pub loop-name-preserved : goal.loop-name-preserved
loop-name-preserved c =
    let step : c.loop-name.name-iterator ≡ c.in-Some.name.now ∷ c.next.new.self = rw c.in-Some.is at c.next.ensures.steps in
    let is : is_key (string_bytes c.in-Some.name.now) ≡ true = ap is_key (sym c.as_str.ensures.value) ∙ sym (name_is c.args.table.now _ c.requires) ∙ sym c.is_name.ensures ∙ c.if-not-is_name.false in
    rw is at (ap are_names (sym step) ∙ c.loop-name.invariant)
