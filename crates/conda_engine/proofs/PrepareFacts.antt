-- What reading configuration and image comes to.
use Rattle.std.proofs.Common.{◌≡◌, ◌≤◌, ℕ, List, length, IsTrue, false, ◌∙◌, ap, arith}
use Rattle.std.specs.Prelude.{None, nat_lt}
use Rattle.std.proofs.lemmas.Bool.Decides.{nat_tests}
use Rattle.conda_host.specs.State.{HostState}
use Rattle.chip_config.specs.Settings.{Settings}
use Rattle.command_run.specs.Driving.{bytes_of_file}
use Rattle.command_answers.specs.Preparing.{IsConfigured}
use Rattle.command_answers.specs.Verdict.{config_limit, image_limit, refusal_of, design_of, status_of_bytes, status_of_image, status_of_schedule, after_config, after_image}

below : (limit n : ℕ) → n ≤ limit → nat_lt limit n ≡ false
below limit n within = grind (arith, nat_tests)

-- ---- the verdict, step by step

-- a configuration that is taken leaves the verdict to the image
pub verdict_of_image : (old : HostState) (name : List ℕ) (config : Settings) (image schedule : List ℕ) → IsConfigured old name config → IsTrue old.tells
    → status_of_bytes (bytes_of_file old name) image schedule ≡ status_of_image config image schedule
verdict_of_image old name config image schedule is tells =
    ap (λ b. status_of_bytes b image schedule) (is.held.bytes_are tells)
    ∙ rw (below config_limit (length is.bytes) is.held.within) (ap (λ r. after_config r image schedule) is.said)

-- an image that is loaded leaves it to the schedule
pub verdict_of_schedule : (config : Settings) (image schedule : List ℕ) → length image ≤ image_limit → refusal_of config image ≡ None
    → status_of_image config image schedule ≡ status_of_schedule (design_of config image) schedule
verdict_of_schedule config image schedule within accepted =
    rw (below image_limit (length image) within) (ap (λ r. after_image r (status_of_schedule (design_of config image) schedule)) accepted)
