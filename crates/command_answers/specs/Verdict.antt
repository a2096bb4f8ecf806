-- What the bytes of configuration, image and schedule lead to.
use Rattle.std.specs.Prelude.{ℕ, List, [], length, Option, Some, None, Result, Ok, Err, if◌then◌else◌, nat_lt}
use Rattle.conda_host.specs.declared.outside.Role.TheVariants.{Config, Image, Schedule}
use Rattle.conda_base.specs.declared.actor.Actor.{Actor}
use Rattle.chip_config.specs.declared.fault.ConfigFault.{ConfigFault}
use Rattle.chip_config.specs.Settings.{Settings, configured, settings_at}
use Rattle.elf_loader.specs.declared.fault.ImageFault.{ImageFault}
use Rattle.elf_loader.specs.Refusal.{refusal}
use Rattle.elf_loader.specs.Image.{image_of}
use Rattle.schedule_log.specs.Verdict.{Verdict, Fine, BadLine, TooLarge, schedule_verdict, events, good}
use Rattle.schedule_log.specs.declared.entry.Entry.{Entry}
use Rattle.schedule_log.specs.Texts.{order_text}
use Rattle.chip_laws.specs.Design.{Design}
use Rattle.command_answers.specs.declared.limits.TheConstants.{CONFIG_LIMIT, IMAGE_LIMIT}
use Rattle.command_answers.specs.declared.status.Status.{Status}
use Rattle.command_answers.specs.declared.status.Status.TheVariants as status

-- the most bytes of a configuration and of an image
abbrev pub config_limit : ℕ
config_limit = CONFIG_LIMIT

abbrev pub image_limit : ℕ
image_limit = IMAGE_LIMIT

-- ---- the chip

-- why an image isn't loaded into a configuration's memory, if it isn't
abbrev pub refusal_of : Settings → List ℕ → Option ImageFault
refusal_of config image = refusal image config.mem_base config.mem_bytes

-- a configuration with an image loaded
abbrev pub design_of : Settings → List ℕ → Design
design_of config image = record {
  config = config;
  image = image_of image config.mem_base config.mem_bytes;
}

-- what is set, and nothing where it is refused
abbrev pub settings_or_none : Result Settings ConfigFault → Settings
settings_or_none (Ok config) = config
settings_or_none (Err fault) = settings_at []

-- what the bytes of configuration and image say
abbrev pub design_said : List ℕ → List ℕ → Design
design_said config image = design_of (settings_or_none (configured config)) image

-- ---- the status

abbrev pub status_of_verdict : Verdict → Status
status_of_verdict Fine = status.Done
status_of_verdict (BadLine line why) = status.Schedule line why
status_of_verdict (TooLarge limit) = status.TooLarge Schedule limit

-- the status of a schedule on a chip, where nothing fails
abbrev pub status_of_schedule : Design → List ℕ → Status
status_of_schedule d schedule = status_of_verdict (schedule_verdict d.config.harts d.config.cores schedule)

-- a refused image decides, and else what comes later
abbrev pub after_image : Option ImageFault → Status → Status
after_image (Some fault) later = status.Image fault
after_image None later = later

abbrev pub status_of_image : Settings → List ℕ → List ℕ → Status
status_of_image config image schedule =
    if nat_lt image_limit (length image) then status.TooLarge Image image_limit
    else after_image (refusal_of config image)
    (status_of_schedule (design_of config image) schedule)

-- a refused configuration decides, and else the image and the schedule
abbrev pub after_config : Result Settings ConfigFault → List ℕ → List ℕ → Status
after_config (Err fault) image schedule = status.Config fault
after_config (Ok config) image schedule = status_of_image config image schedule

-- the status of a run of these bytes, where nothing fails
abbrev pub status_of_bytes : List ℕ → List ℕ → List ℕ → Status
status_of_bytes config image schedule =
    if nat_lt config_limit (length config) then status.TooLarge Config config_limit
    else after_config (configured config) image schedule

-- ---- the texts

-- the texts of the files that a run creates
pub record Texts : Type 0 where
  pub order : List ℕ
  pub output : List ℕ
  pub report : List ℕ

-- what a machine says of events: their entries, their output, and their report
pub record Account : Type 0 where
  pub journal : Design → List Actor → List Entry
  pub output : Design → List Actor → List ℕ
  pub report : Design → List Actor → List ℕ

-- the texts of events
abbrev pub texts_of_events : Account → Design → List Actor → Texts
texts_of_events a d events = record {
  order = order_text (a.journal d events);
  output = a.output d events;
  report = a.report d events;
}

abbrev pub events_that_run : Design → List ℕ → List Actor
events_that_run d schedule = good d.config.harts d.config.cores schedule

-- all events of a schedule, each line's actor as often as its count says
abbrev pub all_events : Design → List ℕ → List Actor
all_events d schedule = events d.config.harts d.config.cores schedule

-- ---- both

-- what a run leads to: its status where nothing fails, the texts of the events that run, and those
-- of all events
pub record Aim : Type 0 where
  pub verdict : Status
  pub texts : Texts
  pub whole : Texts

abbrev pub aim_with : Account → Status → Design → List ℕ → Aim
aim_with a verdict d schedule = record {
  verdict = verdict;
  texts = texts_of_events a d (events_that_run d schedule);
  whole = texts_of_events a d (all_events d schedule);
}

-- what a schedule leads to on a machine
abbrev pub aim_of_schedule : Account → Design → List ℕ → Aim
aim_of_schedule a d schedule = aim_with a (status_of_schedule d schedule) d schedule

-- what the bytes of configuration, image and schedule lead to
abbrev pub aim_of_bytes : Account → List ℕ → List ℕ → List ℕ → Aim
aim_of_bytes a config image schedule =
    aim_with a (status_of_bytes config image schedule) (design_said config image) schedule
