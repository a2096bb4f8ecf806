use Rattle.std.proofs.Common.{map, string_bytes, sym, ◌∙◌}
use Rattle.command_words.specs.Options.{options_of}
use Rattle.command_words.specs.Words.{self_run_in}
use Rattle.command_words.proofs.CommandFacts.{no_events, no_seed, self_asked}
use Rattle.command_words.proofs.command.self_command.Goals as goal

pub returns-in_default : goal.returns-in_default
returns-in_default c =
    let options = options_of (map string_bytes c.args.words.now) in
    let is = rw c.options_of_self.ensures at (sym c.are_allowed.ensures ∙ c.if-not-are_allowed.false) in
    no_seed options (self_run_in options) is (sym c.needed_number.ensures.value ∙ c.in_default.is)

pub returns-in_default-needed_number : goal.returns-in_default-needed_number
returns-in_default-needed_number c =
    let options = options_of (map string_bytes c.args.words.now) in
    let is = rw c.options_of_self.ensures at (sym c.are_allowed.ensures ∙ c.if-not-are_allowed.false) in
    no_events options (self_run_in options) is (sym c.needed_number-2.ensures.value ∙ c.in_default-needed_number.is)

pub returns : goal.returns
returns c =
    let options = options_of (map string_bytes c.args.words.now) in
    let is = rw c.options_of_self.ensures at (sym c.are_allowed.ensures ∙ c.if-not-are_allowed.false) in
    self_asked options c.in-Some.seed c.in-Some-needed_number.events c.in-Some-needed_value.report.now is
    (sym c.needed_number.ensures.value ∙ c.in-Some.is) (sym c.needed_number-2.ensures.value ∙ c.in-Some-needed_number.is) c.in-Some-needed_value.ensures
