-- The number of a status, and its line.
use Rattle.std.specs.Prelude.{◌≢◌, ℕ, List, [], ◌++◌, codes, Option, Some, None}
use Rattle.std.specs.Fmt.{decimal}
use Rattle.conda_host.specs.declared.outside.Role.{Role}
use Rattle.conda_host.specs.declared.outside.Role.TheVariants as role
use Rattle.chip_config.specs.declared.fault.ConfigFault.{ConfigFault}
use Rattle.chip_config.specs.declared.fault.ConfigFault.TheVariants as config_fault
use Rattle.elf_loader.specs.declared.fault.ImageFault.{ImageFault}
use Rattle.elf_loader.specs.declared.fault.ImageFault.TheVariants as fault
use Rattle.command_answers.specs.declared.status.Status.{Status}
use Rattle.command_answers.specs.declared.status.Status.TheVariants as status

abbrev pub status_code : Status → ℕ
status_code status.Done = 0
status_code status.Usage = 2
status_code (status.ReadFault r) = 3
status_code (status.WriteFault r) = 4
status_code (status.Config f) = 5
status_code (status.Image f) = 6
status_code (status.Schedule line why) = 7
status_code (status.TooLarge r limit) = 8
status_code status.OutOfMemory = 9
status_code (status.Syntax line why) = 13

abbrev pub name_of_role : Role → List ℕ
name_of_role role.Config = codes "config"
name_of_role role.Image = codes "image"
name_of_role role.Schedule = codes "schedule"
name_of_role role.Order = codes "order"
name_of_role role.Report = codes "report"
name_of_role role.Output = codes "output"
name_of_role role.Source = codes "source"
name_of_role role.Program = codes "program"

-- the number of a configuration's fault, in the order in which faults are looked for
abbrev pub config_fault_number : ConfigFault → ℕ
config_fault_number config_fault.NotJson = 1
config_fault_number config_fault.NotObject = 2
config_fault_number config_fault.UnknownKey = 3
config_fault_number (config_fault.NotNumber key) = 4
config_fault_number (config_fault.OutOfRange key number) = 5
config_fault_number (config_fault.BadMemory base bytes) = 6
config_fault_number config_fault.OutOfMemory = 0

-- the number of an image's fault, in the order in which faults are looked for
abbrev pub image_fault_number : ImageFault → ℕ
image_fault_number fault.Short = 1
image_fault_number fault.NotElf = 2
image_fault_number fault.NotClass32 = 3
image_fault_number fault.NotLittle = 4
image_fault_number fault.BadVersion = 5
image_fault_number fault.NotExec = 6
image_fault_number fault.NotRiscv = 7
image_fault_number (fault.BadFlags flags) = 8
image_fault_number fault.BadHeaderSize = 9
image_fault_number (fault.TooManySegments many) = 10
image_fault_number fault.TableOutside = 11
image_fault_number (fault.Dynamic k) = 12
image_fault_number (fault.BadSegment k) = 13
image_fault_number (fault.SegmentOutside k) = 14
image_fault_number (fault.Overlap k) = 15
image_fault_number fault.NoSegment = 16
image_fault_number (fault.BadEntry entry) = 17
image_fault_number fault.OutOfMemory = 0

-- a space and the value that a fault holds, if it holds one
abbrev pub held_number : ℕ → List ℕ
held_number n = codes " " ++ decimal n

abbrev pub config_fault_held : ConfigFault → List ℕ
config_fault_held (config_fault.NotNumber key) = held_number key
config_fault_held (config_fault.OutOfRange key number) = held_number key ++ held_number number
config_fault_held (config_fault.BadMemory base bytes) = held_number base ++ held_number bytes
config_fault_held other = []

abbrev pub image_fault_held : ImageFault → List ℕ
image_fault_held (fault.BadFlags flags) = held_number flags
image_fault_held (fault.TooManySegments many) = held_number many
image_fault_held (fault.Dynamic k) = held_number k
image_fault_held (fault.BadSegment k) = held_number k
image_fault_held (fault.SegmentOutside k) = held_number k
image_fault_held (fault.Overlap k) = held_number k
image_fault_held (fault.BadEntry entry) = held_number entry
image_fault_held other = []

abbrev pub option_held : Option ℕ → List ℕ
option_held None = []
option_held (Some n) = held_number n

-- the status holds no want of memory, which has a status of its own
abbrev pub IsTold : Status → Type 0
IsTold (status.Config f) = f ≢ config_fault.OutOfMemory
IsTold (status.Image f) = f ≢ fault.OutOfMemory
IsTold other = Unit {0}

-- the line, without its line feed; Done has none
abbrev pub text_of_status : Status → List ℕ
text_of_status status.Done = []
text_of_status status.Usage = codes "conda: usage"
text_of_status (status.ReadFault r) = codes "conda: cannot read " ++ name_of_role r
text_of_status (status.WriteFault r) = codes "conda: cannot write " ++ name_of_role r
text_of_status (status.Config f) = codes "conda: config fault " ++ decimal (config_fault_number f)
    ++ config_fault_held f
text_of_status (status.Image f) = codes "conda: image fault " ++ decimal (image_fault_number f)
    ++ image_fault_held f
text_of_status (status.Schedule line why) = codes "conda: schedule line " ++ decimal line
    ++ codes " fault " ++ decimal why
text_of_status (status.TooLarge r limit) = codes "conda: " ++ name_of_role r ++ codes " passes "
    ++ decimal limit
text_of_status status.OutOfMemory = codes "conda: out of memory"
text_of_status (status.Syntax line why) = codes "conda: syntax line " ++ decimal line
    ++ codes " fault " ++ decimal why
