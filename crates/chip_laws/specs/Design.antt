-- What a chip is made from: an accepted configuration and an accepted image.
use Rattle.std.specs.Prelude.{◌≡◌, ◌<◌, length}
use Rattle.conda_base.specs.declared.actor.Actor.{Actor}
use Rattle.conda_base.specs.declared.actor.Actor.TheVariants as Actor_is
use Rattle.rv32_hart.specs.Code.{IsCode}
use Rattle.chip_config.specs.declared.config.Config.{Config}
use Rattle.chip_config.specs.Settings.{Settings, settings, IsAccepted}
use Rattle.elf_loader.specs.Image.{ImageView}
use Rattle.offload_calls.specs.State.{Setup}
use Rattle.line_memory.specs.Tags.{Shape}

pub record Design : Type 0 where
  pub config : Settings
  pub image : ImageView

-- the configuration is accepted, and the image is loaded into its memory
pub record IsDesign (d : Design) : Type 0 where
  pub accepted : IsAccepted d.config
  pub code : IsCode d.image.code
  pub base : d.image.code.base ≡ d.config.mem_base
  pub bytes : length d.image.code.bytes ≡ d.config.mem_bytes

-- this configuration with this image
abbrev pub design_for : Config → ImageView → Design
design_for config image = record { config = settings config; image = image }

-- what the flat state's acts need of it
abbrev pub setup_of : Design → Setup
setup_of d = record {
  code = d.image.code;
  entry = d.image.entry;
  harts = d.config.harts;
  cores = d.config.cores;
  line_bytes = d.config.line_bytes;
}

-- the harts' caches
abbrev pub hart_shape : Design → Shape
hart_shape d = record {
  holders = d.config.harts;
  sets = d.config.hart_sets;
  ways = d.config.hart_ways;
}

-- an actor that the configuration has
abbrev pub IsActorOf : Design → Actor → Type 0
IsActorOf d (Actor_is.Hart h) = h < d.config.harts
IsActorOf d (Actor_is.Core j) = j < d.config.cores
