-- What entries say of a core.
use Rattle.std.specs.Prelude.{ℕ, ◌==◌, ◌||◌, Bool, true, false}
use Rattle.conda_base.specs.declared.actor.Actor.{Actor}
use Rattle.conda_base.specs.declared.actor.Actor.TheVariants as Actor_is
use Rattle.schedule_log.specs.declared.entry.Entry.{Entry}
use Rattle.schedule_log.specs.declared.entry.Entry.TheVariants.{Step, Waits, Idle, Held, Open, Lock, Spec, Commit, Back, Flush, Kern}

abbrev pub is_back : ℕ → Entry → Bool
is_back j (Back k n cause) = k == j
is_back j other = false

abbrev pub is_commit : ℕ → Entry → Bool
is_commit j (Commit k n cause) = k == j
is_commit j other = false

abbrev pub is_flush : ℕ → Entry → Bool
is_flush j (Flush k) = k == j
is_flush j other = false

abbrev pub is_lock : ℕ → Entry → Bool
is_lock j (Lock k) = k == j
is_lock j other = false

abbrev pub is_spec : ℕ → Entry → Bool
is_spec j (Spec k) = k == j
is_spec j other = false

-- an Open or a Lock of core j
abbrev pub is_opening : ℕ → Entry → Bool
is_opening j (Open k) = k == j
is_opening j (Lock k) = k == j
is_opening j other = false

-- a Commit or a Back of core j
abbrev pub is_ending : ℕ → Entry → Bool
is_ending j (Commit k n cause) = k == j
is_ending j (Back k n cause) = k == j
is_ending j other = false

-- an opening or an end of a try of core j
abbrev pub is_boundary : ℕ → Entry → Bool
is_boundary j e = is_opening j e || is_ending j e

abbrev pub is_core : ℕ → Actor → Bool
is_core j (Actor_is.Hart h) = false
is_core j (Actor_is.Core k) = k == j

-- an entry of an event of core j
abbrev pub is_of : ℕ → Entry → Bool
is_of j (Step h) = false
is_of j (Waits h) = false
is_of j (Idle a) = is_core j a
is_of j (Held a) = is_core j a
is_of j (Open k) = k == j
is_of j (Lock k) = k == j
is_of j (Spec k) = k == j
is_of j (Commit k n cause) = k == j
is_of j (Back k n cause) = k == j
is_of j (Flush k) = k == j
is_of j (Kern k) = k == j

-- Held or Idle
abbrev pub is_still : Entry → Bool
is_still (Idle a) = true
is_still (Held a) = true
is_still other = false
