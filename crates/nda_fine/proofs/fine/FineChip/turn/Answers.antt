use Rattle.std.proofs.Common.{◌≡◌, sym, subst}
use Rattle.baseline_laws.specs.Rules.{fine_shape}
use Rattle.plain_chip.specs.Views.{PlainView}
use Rattle.nda_fine.specs.Fine.{FineShows}
use Rattle.nda_fine.proofs.FineFacts.{fine-hart}
use Rattle.nda_fine.proofs.fine.FineChip.turn.Goals as goal

pub returns-in-Hart-clause-turns : goal.returns-in-Hart-clause-turns
returns-in-Hart-clause-turns c d w s =
    rw c.in-Hart.is
    (fine-hart d w c.in-Hart.h c.hart_event.new.self c.hart_event.result c.hart_event.new.out.items
    (c.hart_event.ensures.turns d (fine_shape d) w (rw c.self.view_is s)))

pub returns-in-Core-clause-turns : goal.returns-in-Core-clause-turns
returns-in-Core-clause-turns c d w s = rw c.in-Core.is (c.core_event.ensures.turns d w s)
