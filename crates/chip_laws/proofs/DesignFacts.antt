-- What an accepted configuration gives the laws.
use Rattle.std.proofs.Common.{◌%◌, ◌<◌, ◌≤◌, ℕ, ap, ◌∙◌, arith}
use Rattle.try_runs.specs.Serial.{IsSetup}
use Rattle.try_runs.specs.Limits.{limits_of, IsLimits}
use Rattle.chip_laws.specs.Design.{Design, IsDesign, setup_of}

pub setup-fits : (d : Design) → IsDesign d → IsSetup (setup_of d)
setup-fits d is =
    record {
      code = is.code;
      size = is.accepted.ranged.line_bytes;
      base = ap (λ b. b % d.config.line_bytes) is.base ∙ is.accepted.whole_base;
      bytes = ap (λ b. b % d.config.line_bytes) is.bytes ∙ is.accepted.whole_bytes;
    }

pub limits-fit : (d : Design) → IsDesign d → IsLimits (limits_of d.config)
limits-fit d is =
    let ranged = is.accepted.ranged in
    record {
      line_size = ranged.line_bytes;
      sets = (ranged.core_sets.1, ranged.core_sets.2);
      ways = ranged.core_ways;
      bits = ranged.sig_bits;
      reads = ranged.read_limit;
      writes = ranged.write_limit;
      acts = ranged.portion_max;
      output = ranged.out_max;
    }

-- the harts' caches have sets and ways
pub record HasCaches (d : Design) : Type 0 where
  pub ways : 0 < d.config.hart_ways
  pub sets : 0 < d.config.hart_sets

pub caches-fit : (d : Design) → IsDesign d → HasCaches d
caches-fit d is = record { ways = above is.accepted.ranged.hart_ways.0; sets = above is.accepted.ranged.hart_sets.1 }
  where
    above : {n : ℕ} → 1 ≤ n → 0 < n
    above h = omega arith
