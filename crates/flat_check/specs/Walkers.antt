-- What stands for a checker's way through an order.
use Rattle.std.specs.Prelude.{◌≡◌, length}
use Rattle.rv32_hart.specs.Code.{CodeView}
use Rattle.offload_calls.specs.State.{Setup}
use Rattle.flat_check.specs.declared.refusal.Refusal.{Refusal}
use Rattle.flat_check.specs.declared.refusal.Refusal.TheVariants as Refusal_is
use Rattle.flat_check.specs.declared.walker.Walker.{Walker}
use Rattle.flat_check.specs.Flats.{FlatParts, FitsFlat, ShowsFlat, flat_parts}
use Rattle.flat_check.specs.Tries.{TryParts, FitsTries, ShowsTries, try_parts}
use Rattle.flat_check.specs.Walks.{Walk, Ruling, Unsound, Overwritten}

-- the flat machine and the open tries
pub record WalkerParts : Type 0 where
  pub flat : FlatParts
  pub tries : TryParts

abbrev pub walker_parts : Walker → WalkerParts
walker_parts w = record { flat = flat_parts w.flat; tries = try_parts w.tries }

-- the parts fit the image and one another
pub record FitsWalker (code : CodeView) (p : WalkerParts) : Type 0 where
  pub flat : FitsFlat code p.flat
  pub tries : FitsTries code (length p.flat.statuses) p.tries

-- the parts stand for a way through an order
pub record ShowsWalk (s : Setup) (p : WalkerParts) (v : Walk) : Type 0 where
  pub flat : ShowsFlat s p.flat v.flat
  pub tries : ShowsTries s p.tries v.tries

-- there are as many harts and cores as before
pub record HasSameActors (p q : WalkerParts) : Type 0 where
  pub harts : length q.flat.harts ≡ length p.flat.harts
  pub cores : length q.flat.statuses ≡ length p.flat.statuses

-- the ruling that a refusal tells
abbrev pub ruling_of : Refusal → Ruling
ruling_of Refusal_is.Unsound = Unsound
ruling_of (Refusal_is.Overwritten address) = Overwritten address
