-- What a command uses of its host, and that it keeps to that.
use Rattle.std.specs.Prelude.{◌≡◌, ◌≢◌, ◌⊎◌, ℕ, Bool, false, IsTrue, List, Option, Some, None}
use Rattle.conda_host.specs.declared.outside.Role.{Role}
use Rattle.conda_host.specs.State.{HostState, KeepsOpened, KeepsCreated, IsLater}

-- the roles that it opens, and the names of the files that it creates for roles
pub record Uses : Type 0 where
  pub opens : Role → Bool
  pub creates : Role → Option (List ℕ)

-- the host tells its files, or none is created
abbrev pub AreFilesTold : Uses → HostState → Type 0
AreFilesTold u s = IsTrue s.tells ⊎ ((r : Role) → u.creates r ≡ None)

-- no file of that name is created
abbrev pub IsNotCreated : Uses → List ℕ → Type 0
IsNotCreated u n = (r : Role) → u.creates r ≢ Some n

-- no file that is created has the name of this role's file
abbrev pub HasOwnName : Uses → HostState → Role → Type 0
HasOwnName u s r = IsTrue s.tells → IsTrue (s.role r).created → IsNotCreated u (s.role r).name

-- No other role was opened, none other was created, and no other file was changed. A role for which
-- no file is created may lose the file that it has to a role that is given its name.
pub record KeepsTo (u : Uses) (old new : HostState) : Type 0 where
  pub later : IsLater old new
  pub files : AreFilesTold u old → (n : List ℕ) → IsNotCreated u n → new.file n ≡ old.file n
  pub opened : (r : Role) → u.opens r ≡ false → KeepsOpened (old.role r) (new.role r)
  pub created : (r : Role) → u.creates r ≡ None → IsTrue (new.role r).created
      → KeepsCreated (old.role r) (new.role r)
  pub kept : (r : Role) → u.creates r ≡ None → HasOwnName u old r
      → KeepsCreated (old.role r) (new.role r)
