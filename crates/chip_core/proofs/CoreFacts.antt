-- What cores hold after an entry that tells open tries of lines.
use Rattle.std.proofs.Common.{◌≡◌, ℕ, zero, suc, List, [], ◌∷◌, ◌++◌, fold, map, refl, sym, ap, ◌∙◌, subst, append-nil, append_assoc, Option, Some, None}
use Rattle.std.proofs.lemmas.Option.{same_Some}
use Rattle.std.specs.Prelude.{slice_get}
use Rattle.conda_base.specs.declared.Line.{Line}
use Rattle.rv32_hart.specs.declared.regs.Regs.{Regs}
use Rattle.rv32_hart.specs.Code.{CodeView}
use Rattle.bloom_sig.specs.Signatures.{Sets, inserted}
use Rattle.bloom_sig.proofs.ImageLemmas.{inserted_is_image}
use Rattle.portion_ctl.specs.Views.{OpenView}
use Rattle.portion_ctl.specs.Stands.{StandsFor}
use Rattle.chip_laws.specs.Design.{Design}
use Rattle.chip_laws.specs.Rules.{Seat, Opening}
use Rattle.chip_laws.specs.Worlds.{told}
use Rattle.chip_core.specs.declared.stage.Stage.{Stage}
use Rattle.chip_core.specs.declared.stage.Stage.TheVariants as Stage_is
use Rattle.chip_core.specs.Steps.{told_portion, all_told}
use Rattle.chip_core.specs.Shows.{IsImageOf, HoldsAt, HoldsOpen}
use Rattle.try_runs.specs.Fills.{Portion}
use Rattle.chip_laws.specs.Rules.{portion_of}

-- ---- images

pub image-told : (d : Design) (s : Sets) (lines more : List Line) → IsImageOf d s lines → IsImageOf d (fold inserted s more) (lines ++ more)
image-told d s lines [] is = rw append-nil is
image-told d s lines (l ∷ more) is =
    rw (sym (append_assoc lines (l ∷ []) more))
    (image-told d (inserted s l) (lines ++ l ∷ []) more
    (record { bits = is.bits; image = inserted_is_image s lines l is.image }))

pub bits-told : (s : Sets) (more : List Line) → (fold inserted s more).bits ≡ s.bits
bits-told s [] = refl
bits-told s (l ∷ more) = bits-told (inserted s l) more

-- ---- what a core holds

-- a portion stands for what it did, whatever is foreign to it
pub stands-foreign : (code : CodeView) (s : OpenView) (other : Sets) (p : Portion) → other.bits ≡ s.foreign_set.bits
    → StandsFor code s p → StandsFor code (record s { foreign_set = other }) p
stands-foreign code s other p bits stands = record {
  opening = stands.opening;
  acts = stands.acts;
  holds = record {
    regs = stands.holds.regs;
    status = stands.holds.status;
    held = stands.holds.held;
    lines = stands.holds.lines;
    reads = stands.holds.reads;
    writes = stands.holds.writes;
    sizes = record {
      lines = stands.holds.sizes.lines;
      sets = stands.holds.sizes.sets;
      ways = stands.holds.sizes.ways;
      reads = stands.holds.sizes.reads;
      writes = stands.holds.sizes.writes;
      foreign = bits ∙ stands.holds.sizes.foreign;
    };
  };
}

-- a seat whose open try is told of lines, with as many rollbacks
abbrev pub told_seat : List Line → Seat → Seat
told_seat lines seat = record seat { opening = told lines seat.opening }

told-open : (d : Design) (j : ℕ) (regs : Regs) (lines : List Line) (x : Option Opening) (s : OpenView)
    → HoldsOpen d j regs x s → HoldsOpen d j regs (told lines x) (record s { foreign_set = fold inserted s.foreign_set lines })
told-open d j regs lines None s h = h
told-open d j regs lines (Some o) s h =
    record {
      core = h.core;
      limits = h.limits;
      opening = h.opening;
      stands = stands-foreign d.image.code s (fold inserted s.foreign_set lines) (portion_of o) (bits-told s.foreign_set lines) h.stands;
      foreign = image-told d s.foreign_set o.foreign lines h.foreign;
      locked = h.locked;
    }

pub told-holds : (d : Design) (j : ℕ) (regs : Regs) (lines : List Line) (seat : Seat) (p : Stage)
    → HoldsAt d j regs seat p → HoldsAt d j regs (told_seat lines seat) (told_portion lines p)
told-holds d j regs lines seat (Stage_is.Ready s) h =
    record { closed = ap (told lines) h.closed; settled = h.settled; core = h.core; limits = h.limits; regs = h.regs }
told-holds d j regs lines seat (Stage_is.Open s) h = told-open d j regs lines seat.opening s h
told-holds d j regs lines seat (Stage_is.Flushing s) h =
    record {
      closed = ap (told lines) h.closed;
      taken = h.taken;
      core = h.core;
      limits = h.limits;
      regs = h.regs;
      reads = h.reads;
      due = h.due;
    }
told-holds d j regs lines seat Stage_is.Moved h = h

map-get : {A : Type 0} (P : ℕ → A → Type 0) (Q : ℕ → A → Type 0) (f : A → A) → ((j : ℕ) (x : A) → P j x → Q j (f x)) → (xs : List A) (j : ℕ) (y : A)
    → slice_get (map f xs) j ≡ Some y → ((x : A) → slice_get xs j ≡ Some x → P j x) → Q j y
map-get P Q f step [] j y at each = cc
map-get P Q f step (x ∷ xs) zero y at each = subst (Q 0) (same_Some _ _ at) (step 0 x (each x refl))
map-get P Q f step (x ∷ xs) (suc j) y at each = map-get (λ i. P (suc i)) (λ i. Q (suc i)) f (λ i. step (suc i)) xs j y at each

-- every open try is told of these lines
pub all-told-hold : (d : Design) (regs : ℕ → Regs) (seats : ℕ → Seat) (lines : List Line) (portions : List Stage)
    → ((j : ℕ) (p : Stage) → slice_get portions j ≡ Some p → HoldsAt d j (regs j) (seats j) p)
    → (j : ℕ) (p : Stage) → slice_get (all_told lines portions) j ≡ Some p → HoldsAt d j (regs j) (told_seat lines (seats j)) p
all-told-hold d regs seats lines portions each j p at =
    map-get (λ i x. HoldsAt d i (regs i) (seats i) x) (λ i x. HoldsAt d i (regs i) (told_seat lines (seats i)) x)
    (told_portion lines) (λ i x h. told-holds d i (regs i) lines (seats i) x h) portions j p at (each j)

-- nobody is told of nothing
pub told-nothing : (p : Stage) → told_portion [] p ≡ p
told-nothing (Stage_is.Ready s) = refl
told-nothing (Stage_is.Open s) = refl
told-nothing (Stage_is.Flushing s) = refl
told-nothing Stage_is.Moved = refl

pub none-told : (portions : List Stage) → portions ≡ all_told [] portions
none-told [] = refl
none-told (p ∷ portions) = rw (told-nothing p, ← none-told portions) refl
