-- The steps of a run before any file is created.
use Rattle.std.specs.Prelude.{◌≡◌, ◌⊎◌, ℕ, ◌<◌, ◌≤◌, Bool, true, false, List, length, IsTrue, Some, None, Result, Ok, Err}
use Rattle.conda_host.specs.declared.outside.Role.{Role}
use Rattle.conda_host.specs.declared.outside.Role.TheVariants as role
use Rattle.conda_host.specs.State.{HostState, KeepsCreated, IsLater, RoseForAll, Rose}
use Rattle.conda_host.specs.Whole.{PassesLimit}
use Rattle.chip_config.specs.declared.config.Config.{Config}
use Rattle.chip_config.specs.Settings.{Settings, configured, settings}
use Rattle.elf_loader.specs.Image.{ImageView, image_of}
use Rattle.chip_laws.specs.Design.{Design, design_for}
use Rattle.command_run.specs.Driving.{bytes_of_file}
use Rattle.command_words.specs.Words.{Files}
use Rattle.command_answers.specs.declared.status.Status.{Status}
use Rattle.command_answers.specs.declared.status.Status.TheVariants as status
use Rattle.command_answers.specs.Faults.{IsAnswer, IsFaultCaused}
use Rattle.command_answers.specs.Verdict.{config_limit, image_limit, refusal_of, status_of_bytes}

-- ---- what is opened

-- only these roles were opened; nothing that any role has created was touched, and no file
pub record OnlyOpens (opens : Role → Bool) (old new : HostState) : Type 0 where
  pub later : IsLater old new
  pub files : (n : List ℕ) → new.file n ≡ old.file n
  pub roles : (r : Role) → opens r ≡ false → new.role r ≡ old.role r
  pub created : (r : Role) → KeepsCreated (old.role r) (new.role r)

abbrev pub is_config : Role → Bool
is_config role.Config = true
is_config other = false

-- the roles that a run opens before its memory is taken
abbrev pub is_first : Role → Bool
is_first role.Config = true
is_first role.Image = true
is_first other = false

-- those that it has opened where it isn't made ready, and where it is
abbrev pub unready_opens : Status → Role → Bool
unready_opens (status.ReadFault role.Config) = is_config
unready_opens (status.Config fault) = is_config
unready_opens (status.TooLarge role.Config limit) = is_config
unready_opens other = is_first

abbrev pub prepare_opens : {A : Type 0} → Result A Status → Role → Bool
prepare_opens (Ok prepared) = is_first
prepare_opens (Err answer) = unready_opens answer

-- ---- what is read

-- a role couldn't be read, or has too many bytes, or memory ran out
abbrev pub IsReadError : HostState → HostState → Role → ℕ → Status → Type 0
IsReadError old new role limit (status.ReadFault r) = (r ≡ role) × RoseForAll old new role
IsReadError old new role limit (status.TooLarge r n) =
    (r ≡ role) × (n ≡ limit) × PassesLimit old role limit
IsReadError old new role limit status.OutOfMemory = Unit {0}
IsReadError old new role limit other = ⊥

-- what clauses see of a run that is ready: its configuration, its image as loaded, and its files
pub record PreparedView : Type 0 where
  pub config : Config
  pub image : ImageView
  pub files : Files

-- the design of a run that is ready
abbrev pub design_in : PreparedView → Design
design_in p = design_for p.config p.image

-- these are the bytes of a file, within a limit
pub record HoldsFile (old : HostState) (name : List ℕ) (limit : ℕ) (bytes : List ℕ) : Type 0 where
  pub bytes_are : IsTrue old.tells → bytes_of_file old name ≡ bytes
  pub within : length bytes ≤ limit

-- why a file isn't read
abbrev pub IsFileError : HostState → HostState → Role → List ℕ → ℕ → Status → Type 0
IsFileError old new role name limit (status.ReadFault r) = (r ≡ role) × Rose old new role name
IsFileError old new role name limit (status.TooLarge r n) =
    (r ≡ role) × (n ≡ limit) × (IsTrue old.tells → limit < length (bytes_of_file old name))
IsFileError old new role name limit status.OutOfMemory = Unit {0}
IsFileError old new role name limit other = ⊥

-- a file says a configuration
pub record IsConfigured (old : HostState) (name : List ℕ) (config : Settings)
    : Type 0 where
  pub bytes : List ℕ
  pub held : HoldsFile old name config_limit bytes
  pub said : configured bytes ≡ Ok config

-- why bytes give no configuration
abbrev pub IsBytesError : List ℕ → Status → Type 0
IsBytesError bytes (status.Config fault) = configured bytes ≡ Err fault
IsBytesError bytes status.OutOfMemory = Unit {0}
IsBytesError bytes other = ⊥

-- why a file gives no configuration
abbrev pub IsConfigError : HostState → HostState → List ℕ → Status → Type 0
IsConfigError old new name (status.Config fault) =
    IsTrue old.tells → (length (bytes_of_file old name) ≤ config_limit)
    × (configured (bytes_of_file old name) ≡ Err fault)
IsConfigError old new name other = IsFileError old new role.Config name config_limit other

-- an image is that of a file, in a configuration's memory
pub record IsLoaded (config : Settings) (old : HostState) (name : List ℕ) (image : ImageView)
    : Type 0 where
  pub bytes : List ℕ
  pub held : HoldsFile old name image_limit bytes
  pub accepted : refusal_of config bytes ≡ None
  pub loaded : image ≡ image_of bytes config.mem_base config.mem_bytes
  pub size : length image.code.bytes ≡ config.mem_bytes

-- why bytes give no image
abbrev pub IsImageError : Settings → List ℕ → Status → Type 0
IsImageError config bytes (status.Image fault) = refusal_of config bytes ≡ Some fault
IsImageError config bytes status.OutOfMemory = Unit {0}
IsImageError config bytes other = ⊥

-- why a file gives no image
abbrev pub IsLoadError : Settings → HostState → HostState → List ℕ → Status → Type 0
IsLoadError config old new name (status.Image fault) =
    IsTrue old.tells → (length (bytes_of_file old name) ≤ image_limit)
    × (refusal_of config (bytes_of_file old name) ≡ Some fault)
IsLoadError config old new name other = IsFileError old new role.Image name image_limit other

-- a run of these files is ready: its configuration and its image are what their files say
pub record IsReadyFor (files : Files) (old : HostState) (p : PreparedView) : Type 0 where
  pub named : p.files ≡ files
  pub config : IsConfigured old files.config (settings p.config)
  pub image : IsLoaded (settings p.config) old files.image p.image

-- an answer of these steps: it says that memory ran out, that a file wasn't read, or that it is
-- refused
abbrev pub IsEarly : Status → Type 0
IsEarly (status.ReadFault role.Config) = Unit {0}
IsEarly (status.ReadFault role.Image) = Unit {0}
IsEarly (status.Config fault) = Unit {0}
IsEarly (status.Image fault) = Unit {0}
IsEarly (status.TooLarge role.Config limit) = limit ≡ config_limit
IsEarly (status.TooLarge role.Image limit) = limit ≡ image_limit
IsEarly status.OutOfMemory = Unit {0}
IsEarly other = ⊥

-- memory ran out, or the host failed, or it is what the bytes lead to whatever the schedule is
pub record IsUnready (files : Files) (old new : HostState) (answer : Status) : Type 0 where
  pub early : IsEarly answer
  pub caused : IsFaultCaused files old new answer
  pub answered : (answer ≡ status.OutOfMemory)
      ⊎ ((schedule : List ℕ) → IsAnswer files old new
      (status_of_bytes (bytes_of_file old files.config) (bytes_of_file old files.image) schedule) answer)
