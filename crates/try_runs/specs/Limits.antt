-- The limits of a portion, which a configuration gives.
use Rattle.std.specs.Prelude.{◌≤◌}
use Rattle.conda_base.specs.Lines.{IsLineSize}
use Rattle.chip_config.specs.Settings.{Settings}
use Rattle.try_runs.specs.declared.limits.Limits.{Limits}

abbrev pub limits_of : Settings → Limits
limits_of c = record {
  line_bytes = c.line_bytes;
  core_sets = c.core_sets;
  core_ways = c.core_ways;
  sig_bits = c.sig_bits;
  read_limit = c.read_limit;
  write_limit = c.write_limit;
  portion_max = c.portion_max;
  out_max = c.out_max;
}

-- the limits are in the ranges of a configuration
pub record IsLimits (limits : Limits) : Type 0 where
  pub line_size : IsLineSize limits.line_bytes
  pub sets : (1 ≤ limits.core_sets) × (limits.core_sets ≤ 64)
  pub ways : (1 ≤ limits.core_ways) × (limits.core_ways ≤ 8)
  pub bits : (1 ≤ limits.sig_bits) × (limits.sig_bits ≤ 10)
  pub reads : (1 ≤ limits.read_limit) × (limits.read_limit ≤ 4096)
  pub writes : (1 ≤ limits.write_limit) × (limits.write_limit ≤ 4096)
  pub acts : (1 ≤ limits.portion_max) × (limits.portion_max ≤ 65536)
  pub output : (1 ≤ limits.out_max) × (limits.out_max ≤ 64)
