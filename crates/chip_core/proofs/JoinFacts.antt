-- What cores hold after a commit, of which all open tries are told.
use Rattle.std.proofs.Common.{◌≡◌, ℕ, zero, suc, List, [], ◌∷◌, ◌++◌, map, refl, sym, ap, ◌∙◌, Option, Some, None}
use Rattle.std.proofs.lemmas.Option.{same_Some}
use Rattle.std.specs.Prelude.{slice_get}
use Rattle.conda_base.specs.declared.Line.{Line}
use Rattle.rv32_hart.specs.declared.regs.Regs.{Regs}
use Rattle.bloom_sig.specs.Signatures.{Sets, joined}
use Rattle.bloom_sig.proofs.ImageLemmas.{joined_is_image}
use Rattle.portion_ctl.specs.Views.{OpenView}
use Rattle.chip_laws.specs.Design.{Design}
use Rattle.chip_laws.specs.Rules.{Seat, Opening}
use Rattle.chip_laws.specs.Worlds.{told}
use Rattle.chip_core.specs.declared.stage.Stage.{Stage}
use Rattle.chip_core.specs.declared.stage.Stage.TheVariants as Stage_is
use Rattle.chip_core.specs.Rulings.{joined_portion}
use Rattle.chip_core.specs.Shows.{IsImageOf, HoldsAt, HoldsOpen}
use Rattle.chip_core.proofs.CoreFacts.{told_seat, stands-foreign}
use Rattle.chip_laws.specs.Rules.{portion_of}

joined-image : (d : Design) (s other : Sets) (lines others : List Line) → IsImageOf d s lines → IsImageOf d other others
    → IsImageOf d (joined s other) (lines ++ others)
joined-image d s other lines others is ours =
    record { bits = is.bits; image = joined_is_image s other lines others (is.bits ∙ sym ours.bits) is.image ours.image }

joined-open : (d : Design) (j : ℕ) (regs : Regs) (sets : Sets) (lines : List Line) → IsImageOf d sets lines → (x : Option Opening) (s : OpenView)
    → HoldsOpen d j regs x s → HoldsOpen d j regs (told lines x) (record s { foreign_set = joined s.foreign_set sets })
joined-open d j regs sets lines image None s h = h
joined-open d j regs sets lines image (Some o) s h =
    record {
      core = h.core;
      limits = h.limits;
      opening = h.opening;
      stands = stands-foreign d.image.code s (joined s.foreign_set sets) (portion_of o) refl h.stands;
      foreign = joined-image d s.foreign_set sets o.foreign lines h.foreign image;
      locked = h.locked;
    }

pub joined-holds : (d : Design) (j : ℕ) (regs : Regs) (sets : Sets) (lines : List Line) → IsImageOf d sets lines → (seat : Seat) (p : Stage)
    → HoldsAt d j regs seat p → HoldsAt d j regs (told_seat lines seat) (joined_portion sets p)
joined-holds d j regs sets lines image seat (Stage_is.Ready s) h =
    record { closed = ap (told lines) h.closed; settled = h.settled; core = h.core; limits = h.limits; regs = h.regs }
joined-holds d j regs sets lines image seat (Stage_is.Open s) h = joined-open d j regs sets lines image seat.opening s h
joined-holds d j regs sets lines image seat (Stage_is.Flushing s) h =
    record {
      closed = ap (told lines) h.closed;
      taken = h.taken;
      core = h.core;
      limits = h.limits;
      regs = h.regs;
      reads = h.reads;
      due = h.due;
    }
joined-holds d j regs sets lines image seat Stage_is.Moved h = h

-- a member of a list that was changed everywhere
pub map-found : {A : Type 0} (f : A → A) (xs : List A) (k : ℕ) (y : A) → slice_get (map f xs) k ≡ Some y
    → (x : A) × (slice_get xs k ≡ Some x) × (y ≡ f x)
map-found {A} f [] k y at = absurd (let z : ◌≡◌ {A = Option A} None (Some y) = at in cc)
map-found f (x ∷ xs) zero y at = (x, refl, sym (same_Some _ _ at))
map-found f (x ∷ xs) (suc k) y at = map-found f xs k y at
