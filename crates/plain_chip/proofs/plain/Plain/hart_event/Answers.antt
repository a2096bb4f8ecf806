use Rattle.std.proofs.Common.{◌≡◌, ◌<◌, ◌∙◌, ap, sym, refl, subst, length, set, arith, ℕ}
use Rattle.std.proofs.lemmas.Option.{slice_get_read}
use Rattle.chip_config.specs.Settings.{Settings, settings}
use Rattle.chip_laws.specs.Design.{setup_of}
use Rattle.plain_chip.specs.Views.{PlainView, plain_view}
use Rattle.plain_chip.specs.Shows.{ShowsPlain}
use Rattle.plain_chip.proofs.PlainFacts.{bytes-of, hart-happened, hart-of}
use Rattle.plain_chip.proofs.plain.Plain.hart_event.Goals as goal

pub returns-clause-turns : goal.returns-clause-turns
returns-clause-turns c d shape w s =
    let h = c.args.h in
    let x = c.self.inside in
    let e = c.hart_event in
    let was : PlainView = plain_view (settings x.config) x.code x.memory x.harts.items x.statuses.items x.regs.items x.log in
    let new : PlainView = plain_view (settings x.config) x.code e.new.memory (set x.harts.items h e.new.hart)
    e.new.statuses.items e.new.regs.items e.new.log in
    let shows : ShowsPlain d shape was w = rw c.self.view_is s in
    let there : h < was.config.harts = subst (λ (v : PlainView). h < v.config.harts) (sym c.self.view_is) c.requires.hart in
    let inside : h < length x.harts.items = below there c.self.invariant.harts_are in
    let low : h < d.config.harts = subst (λ n. h < n) (ap (λ (y : Settings). y.harts) shows.config) there in
    hart-happened d shape w h c.args.held was new e.new.hart e.result e.new.out.items low refl refl refl shows
    (e.ensures.event (setup_of d) w.flat shows.code (bytes-of d shape was w shows)
    (hart-of d shape was w h c.index_mut.result.now shows
    (slice_get_read x.harts.items (length x.harts.items) h c.index_mut.result.now refl inside c.index_mut.ensures.value) low)
    shows.regs)
  where
    below : {h n m : ℕ} → h < n → m ≡ n → h < m
    below u e = omega arith
