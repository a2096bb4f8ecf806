use Rattle.std.proofs.Common.{◌≡◌, Some, length, sym, ap, ◌∙◌}
use Rattle.serde_json.specs.Find.{as_object}
use Rattle.serde_json.specs.View.{members_view, view}
use Rattle.chip_config.specs.Settings.{memory_fault, settings_at}
use Rattle.chip_config.proofs.JudgingLemmas.{answer_of, judged, ranged, sixteen_numbers}
use Rattle.chip_config.proofs.reading.read_value.Goals as goal

pub configure-requires : goal.configure-requires
configure-requires c =
    ranged c.in_ok-numbers.numbers (ap length c.in_ok-numbers.ensures.1 ∙ sixteen_numbers (view c.args.value.now)) (sym c.find_outside.ensures ∙ c.in-None.is)

pub returns-in-None : goal.returns-in-None
returns-in-None c =
    let n = c.in_ok-numbers.numbers in
    let object : as_object (view c.args.value.now) ≡ Some (members_view c.in-Some.members.now.entries) = sym (rw c.in-Some.is at c.as_object.ensures) in
    let fault = memory_fault (settings_at n) in
    let is = judged (view c.args.value.now) _ n object (sym c.has_keys_alone.ensures ∙ c.if-not-has_keys_alone.false) c.in_ok-numbers.ensures.0 c.in_ok-numbers.ensures.1 (sym c.find_outside.ensures ∙ c.in-None.is) in
    answer_of (view c.args.value.now) fault (settings_at n) c.configure.result is c.configure.ensures
