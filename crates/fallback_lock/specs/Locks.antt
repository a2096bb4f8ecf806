-- Rollbacks in a row, and the one core whose locked try is open.
use Rattle.std.specs.Prelude.{ℕ, ◌≢◌, ◌==◌, List, slice_index_or, slice_set, replicate, Option, Some, None, if◌then◌else◌}
use Rattle.conda_base.specs.declared.Actor.{Actor}
use Rattle.conda_base.specs.declared.Actor.TheVariants.{Hart, Core}

-- the rollbacks of each core since its last commit or launch, after how many a try is locked, and the core whose locked
-- try is open
pub record Counts : Type 0 where
  pub backs : List ℕ
  pub retries : ℕ
  pub locked : Option ℕ

-- no rollback yet, and nobody locked
abbrev pub fresh_counts : ℕ → ℕ → Counts
fresh_counts cores retries = record { backs = replicate cores 0; retries = retries; locked = None }

-- the rollbacks of a core
abbrev pub backs_of : Counts → ℕ → ℕ
backs_of counts core = slice_index_or counts.backs core 0

-- the core has this many rollbacks
abbrev pub with_backs : Counts → ℕ → ℕ → Counts
with_backs counts core backs = record counts { backs = slice_set counts.backs core backs }

-- the core's locked try is open
abbrev pub with_locked : Counts → ℕ → Counts
with_locked counts core = record counts { locked = Some core }

-- the core that is locked, without this one
abbrev pub locked_without : ℕ → Option ℕ → Option ℕ
locked_without core None = None
locked_without core (Some other) = if other == core then None else Some other

-- a commit of the core: no rollback, and its locked try is open no more
abbrev pub committed : Counts → ℕ → Counts
committed counts core = record {
  backs = slice_set counts.backs core 0;
  retries = counts.retries;
  locked = locked_without core counts.locked;
}

-- the locked try is another actor's
abbrev pub IsAnothers : Option ℕ → Actor → Type 0
IsAnothers None actor = ⊥
IsAnothers (Some owner) (Hart h) = Unit {0}
IsAnothers (Some owner) (Core core) = owner ≢ core
