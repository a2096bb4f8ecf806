use Rattle.std.proofs.Common.{◌≡◌, ◌<◌, ◌+◌, ◌∙◌, ap, sym, subst, ℕ}
use Rattle.chip_config.specs.Settings.{Settings}
use Rattle.baseline_laws.specs.Rules.{fine_shape}
use Rattle.plain_chip.specs.Views.{PlainView}
use Rattle.plain_chip.proofs.PlainFacts.{runs-there}
use Rattle.nda_fine.specs.Fine.{FineShows}
use Rattle.nda_fine.proofs.FineFacts.{fine-idle, fine-kern}
use Rattle.nda_fine.proofs.fine.FineChip.core_event.Goals as goal

pub returns-then-not-is_running-clause-turns : goal.returns-then-not-is_running-clause-turns
returns-then-not-is_running-clause-turns c d w s =
    let j = c.args.j in
    let x = c.self.inside.plain in
    let shows : FineShows d x w = rw c.self.view_is s in
    let low : j < d.config.cores = subst (λ (y : Settings). j < y.cores) s.config c.requires.core in
    fine-idle d w j c.args.self.now c.args.out.now.items
    (sym (runs-there d (fine_shape d) w x j shows low) ∙ sym c.is_running.ensures ∙ c.if-not-is_running.true) c.requires.empty s

pub returns-clause-turns : goal.returns-clause-turns
returns-clause-turns c d w s =
    let j = c.args.j in
    let x = c.self.inside.plain in
    let shows : FineShows d x w = rw c.self.view_is s in
    let low : j < d.config.cores = subst (λ (y : Settings). j < y.cores) s.config c.requires.core in
    fine-kern d w j c.holder_of-holder.result c.kernel_event.new.self c.kernel_event.new.out.items
    (sym (runs-there d (fine_shape d) w x j shows low) ∙ sym c.is_running.ensures ∙ c.if-not-is_running.false)
    (c.holder_of-holder.ensures ∙ ap (λ (y : Settings). y.harts + j) shows.config)
    (c.kernel_event.ensures.turns d (fine_shape d) w shows)
