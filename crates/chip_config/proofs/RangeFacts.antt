-- A configuration's numbers are accepted.
use Rattle.chip_config.specs.declared.config.Config.{Config}
use Rattle.chip_config.specs.Settings.{settings, IsAccepted}

pub accepted : (c : Config) → IsAccepted (settings c)
accepted c = record {
  ranged = record {
    harts = c.some_harts;
    cores = c.some_cores;
    mem_base = c.even_base;
    mem_bytes = (c.even_bytes, c.some_bytes.0, c.some_bytes.1);
    hart_sets = c.some_hart_sets;
    hart_ways = c.some_hart_ways;
    core_sets = c.some_core_sets;
    core_ways = c.some_core_ways;
    sig_bits = c.some_sig_bits;
    read_limit = c.some_reads;
    write_limit = c.some_writes;
    portion_max = c.some_acts;
    out_max = c.some_output;
    retries = c.few_retries;
    trace_last = c.some_notes;
    line_bytes = c.line_size;
  };
  ends = c.memory_ends;
  whole_base = c.whole_base;
  whole_bytes = c.whole_bytes;
}
