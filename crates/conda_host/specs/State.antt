-- What a host is seen as, and what its calls do to that.
use Rattle.std.specs.Prelude.{◌≡◌, ◌≢◌, ◌↔◌, ℕ, ◌+◌, ◌-◌, ◌^◌, ◌<◌, ◌≤◌, min, Bool, IsTrue, List, [], ◌++◌, length, take, Option, Some}
use Rattle.conda_host.specs.declared.outside.Role.{Role}

-- what a host tells of one role
pub record RoleState : Type 0 where
  pub opened : Bool
  pub left : List ℕ
  pub created : Bool
  pub name : List ℕ
  pub written : List ℕ

-- A host as its callers see it. Where tells is false, file, left, name and written mean nothing.
pub record HostState : Type 0 where
  pub tells : Bool
  pub file : List ℕ → Option (List ℕ)
  pub role : Role → RoleState
  pub faults : Role → List ℕ → ℕ

abbrev pub is_opened : HostState → Role → Bool
is_opened s r = (s.role r).opened

abbrev pub is_created : HostState → Role → Bool
is_created s r = (s.role r).created

-- a host tells as much as before, and no count of faults fell
pub record IsLater (old new : HostState) : Type 0 where
  pub tells : new.tells ≡ old.tells
  pub counts : (r : Role) (n : List ℕ) → old.faults r n ≤ new.faults r n

-- the count of this role and name is greater, or stands at the end of its range
pub record Rose (old new : HostState) (r : Role) (n : List ℕ) : Type 0 where
  pub rose : min (old.faults r n + 1) (2 ^ 64 - 1) ≤ new.faults r n

-- the count of this role rose for every name
pub record RoseForAll (old new : HostState) (r : Role) : Type 0 where
  pub each : (n : List ℕ) → Rose old new r n

-- what a role has opened stays
pub record KeepsOpened (old new : RoleState) : Type 0 where
  pub opened : new.opened ≡ old.opened
  pub left : new.left ≡ old.left

-- what a role has created stays
pub record KeepsCreated (old new : RoleState) : Type 0 where
  pub created : new.created ≡ old.created
  pub name : new.name ≡ old.name
  pub written : new.written ≡ old.written

-- a call on one role that changes no file, no other role, and nothing that the role has created
pub record IsReading (old new : HostState) (role : Role) : Type 0 where
  pub later : IsLater old new
  pub files : (n : List ℕ) → new.file n ≡ old.file n
  pub roles : (r : Role) → r ≢ role → new.role r ≡ old.role r
  pub made : KeepsCreated (old.role role) (new.role role)

-- a call on a created role that changes no file but the role's, no other role, and nothing that
-- the role has opened
pub record IsWriting (old new : HostState) (role : Role) : Type 0 where
  pub later : IsLater old new
  pub files : (n : List ℕ) → n ≢ (old.role role).name → new.file n ≡ old.file n
  pub roles : (r : Role) → r ≢ role → new.role r ≡ old.role r
  pub created : IsTrue (new.role role).created
  pub name : (new.role role).name ≡ (old.role role).name
  pub source : KeepsOpened (old.role role) (new.role role)

-- a role that the host doesn't tell to have created this name
abbrev pub HasOtherName : HostState → Role → List ℕ → Type 0
HasOtherName s r given = IsTrue s.tells → IsTrue (s.role r).created → (s.role r).name ≢ given

-- A call that makes a file for a role, and changes nothing that is opened. Another role may be
-- created no longer, where the host tells that it has this name.
pub record IsCreating (old new : HostState) (role : Role) (given : List ℕ) : Type 0 where
  pub later : IsLater old new
  pub files : (n : List ℕ) → n ≢ given → new.file n ≡ old.file n
  pub roles : (r : Role) → r ≢ role → HasOtherName old r given → new.role r ≡ old.role r
  pub sources : (r : Role) → KeepsOpened (old.role r) (new.role r)
  pub kept : (r : Role) → r ≢ role → IsTrue (new.role r).created → new.role r ≡ old.role r

-- the role is opened, and all bytes of the file are left of it
pub record Opens (old new : HostState) (role : Role) (name : List ℕ) : Type 0 where
  pub opened : IsTrue (new.role role).opened
  pub left : IsTrue old.tells → old.file name ≡ Some (new.role role).left

-- n bytes went to the buffer's front
pub record Reads (old new : HostState) (role : Role) (before after : List ℕ) (n : ℕ)
    : Type 0 where
  pub bound : n ≤ length before
  pub opened : IsTrue (new.role role).opened
  pub bytes : IsTrue old.tells → (old.role role).left ≡ take n after ++ (new.role role).left
  pub ended : IsTrue old.tells → 0 < length before → (n ≡ 0) ↔ ((old.role role).left ≡ [])

-- the role is created, and its file is empty
pub record Creates (new : HostState) (role : Role) (given : List ℕ) : Type 0 where
  pub created : IsTrue (new.role role).created
  pub name : IsTrue new.tells → (new.role role).name ≡ given
  pub written : IsTrue new.tells → (new.role role).written ≡ []
  pub file : IsTrue new.tells → new.file given ≡ Some []

-- the first n bytes were appended
pub record Writes (old new : HostState) (role : Role) (bytes : List ℕ) (n : ℕ) : Type 0 where
  pub bound : n ≤ length bytes
  pub some : 0 < length bytes → 0 < n
  pub written : IsTrue old.tells
      → (new.role role).written ≡ (old.role role).written ++ take n bytes
  pub file : IsTrue old.tells → new.file (old.role role).name ≡ Some (new.role role).written
