-- No list of tags names a line twice, and a line that a hart has in M or E is held by no other
-- hart.
use Rattle.std.specs.Prelude.{List}
use Rattle.conda_base.specs.declared.actor.Actor.{Actor}
use Rattle.line_memory.specs.Owners.{HasSingleOwners}
use Rattle.chip_laws.specs.Design.{Design, hart_shape}
use Rattle.chip_laws.specs.Worlds.{world}

abbrev pub AlwaysOwners : Type 0
AlwaysOwners =
    (d : Design) (events : List Actor) → HasSingleOwners (hart_shape d) (world d events).tags
