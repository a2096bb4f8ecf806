-- The machines that commands run: what each says of events, and what holds of these.
use Rattle.std.specs.Prelude.{List}
use Rattle.conda_base.specs.declared.actor.Actor.{Actor}
use Rattle.baseline_laws.specs.Laws.{AreFineLawful}
use Rattle.chip_core.specs.Reports.{report_of_events}
use Rattle.chip_laws.specs.Design.{Design}
use Rattle.chip_laws.specs.Lawful.{AreLawful}
use Rattle.chip_laws.specs.Worlds.{journal, output_of}
use Rattle.command_answers.specs.Verdict.{Account}
use Rattle.command_words.specs.declared.command.Mode.{Mode}
use Rattle.command_words.specs.declared.command.Mode.TheVariants as mode
use Rattle.nda_fine.specs.Fine.{fine_journal, fine_output, fine_report}

-- the account of the chip
abbrev pub chip_account : Account
chip_account = record {
  journal = journal;
  output = output_of;
  report = report_of_events;
}

-- that of the machine whose kernels act on the shared memory
abbrev pub fine_account : Account
fine_account = record { journal = fine_journal; output = fine_output; report = fine_report }

abbrev pub account_in : Mode → Account
account_in mode.Conda = chip_account
account_in mode.Fine = fine_account

abbrev pub law_in : Mode → Design → List Actor → Type 0
law_in mode.Conda = AreLawful
law_in mode.Fine = AreFineLawful
