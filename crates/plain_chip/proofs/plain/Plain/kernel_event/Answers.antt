use Rattle.std.proofs.Common.{◌≡◌, ◌<◌, ap, sym, refl, subst}
use Rattle.chip_config.specs.Settings.{Settings, settings}
use Rattle.chip_laws.specs.Design.{setup_of}
use Rattle.plain_chip.specs.Views.{PlainView, plain_view}
use Rattle.plain_chip.specs.Shows.{ShowsPlain}
use Rattle.plain_chip.proofs.PlainFacts.{bytes-of, kernel-happened, same-but, status-there}
use Rattle.plain_chip.proofs.plain.Plain.kernel_event.Goals as goal

pub returns-clause-turns : goal.returns-clause-turns
returns-clause-turns c d shape w s =
    let j = c.args.j in
    let x = c.self.inside in
    let e = c.core_act in
    let was : PlainView = plain_view (settings x.config) x.code x.memory x.harts.items x.statuses.items x.regs.items x.log in
    let new : PlainView = plain_view (settings x.config) x.code e.new.memory x.harts.items e.new.statuses.items
    e.new.regs.items e.new.log in
    let shows : ShowsPlain d shape was w = rw c.self.view_is s in
    let there : j < was.config.cores = subst (λ (v : PlainView). j < v.config.cores) (sym c.self.view_is) c.requires.core in
    let low : j < d.config.cores = subst (λ n. j < n) (ap (λ (y : Settings). y.cores) shows.config) there in
    kernel-happened d shape w j c.args.holder was new e.new.out.items low (same-but was new refl refl refl) shows
    (e.ensures.event (setup_of d) w.flat shows.code (bytes-of d shape was w shows) (status-there d shape w was j shows low)
    (shows.regs j low))
