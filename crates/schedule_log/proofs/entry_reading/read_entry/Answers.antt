use Rattle.std.proofs.Common.{◌∙◌, ap, get_or}
use Rattle.schedule_log.specs.EntryReading.{entry_by}
use Rattle.schedule_log.proofs.EndReadingLemmas.{line_fits, line_read, line_text, rest_of}
use Rattle.schedule_log.proofs.entry_reading.read_entry.Goals as goal

pub returns-clause-text : goal.returns-clause-text
returns-clause-text c =
    let line = c.args.line.now in
    line_text line c.read_by.result c.if-line-lt2.false c.if-line-ne32.false (c.read_by.ensures ∙ ap (entry_by (get_or line 0 0)) (rest_of line 2))

pub returns-clause-in_range : goal.returns-clause-in_range
returns-clause-in_range c =
    let line = c.args.line.now in
    line_fits line c.read_by.result (c.read_by.ensures ∙ ap (entry_by (get_or line 0 0)) (rest_of line 2))

pub returns-clause-every : goal.returns-clause-every
returns-clause-every c =
    let line = c.args.line.now in
    line_read line c.read_by.result c.if-line-ne32.false (c.read_by.ensures ∙ ap (entry_by (get_or line 0 0)) (rest_of line 2))
