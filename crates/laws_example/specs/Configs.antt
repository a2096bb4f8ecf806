-- Configurations: the smallest memory, and else what a configuration has that names nothing.
use lib.Count
use Rattle.std.specs.Prelude.{refl}
use Rattle.chip_config.specs.declared.config.Config.{Config}
use Rattle.std.proofs.Common.{arith}

unfoldable pub plain_config : Config
unfolding lib.Count.ones
plain_config = record {
  harts = 1;
  cores = 1;
  mem_base = 0;
  mem_bytes = 4096;
  hart_sets = 64;
  hart_ways = 8;
  core_sets = 64;
  core_ways = 4;
  sig_bits = 9;
  read_limit = 256;
  write_limit = 256;
  portion_max = 4096;
  out_max = 64;
  retries = 3;
  trace_last = 64;
  line_bytes = 64;
  some_harts = (omega arith, omega arith);
  some_cores = (omega arith, omega arith);
  even_base = (refl, omega arith);
  even_bytes = refl;
  some_bytes = (omega arith, omega arith);
  memory_ends = omega arith;
  whole_base = refl;
  whole_bytes = refl;
  some_hart_sets = (refl, omega arith, omega arith);
  some_hart_ways = (omega arith, omega arith);
  some_core_sets = (refl, omega arith, omega arith);
  some_core_ways = (omega arith, omega arith);
  some_sig_bits = (omega arith, omega arith);
  some_reads = (omega arith, omega arith);
  some_writes = (omega arith, omega arith);
  some_acts = (omega arith, omega arith);
  some_output = (omega arith, omega arith);
  few_retries = omega arith;
  some_notes = (omega arith, omega arith);
  line_size = refl;
}

unfoldable pub with_two_cores : Config
with_two_cores = record plain_config { cores = 2; some_cores = (omega arith, omega arith) }

unfoldable pub with_two_retries : Config
with_two_retries = record plain_config { retries = 2; few_retries = omega arith }

-- two harts with a cache of one line each
unfoldable pub with_two_harts : Config
unfolding lib.Count.ones
with_two_harts = record plain_config {
  harts = 2;
  hart_sets = 1;
  hart_ways = 1;
  some_harts = (omega arith, omega arith);
  some_hart_sets = (refl, omega arith, omega arith);
  some_hart_ways = (omega arith, omega arith);
}
