use Rattle.elf_loader.proofs.LawFacts.{in_memory, zero_elsewhere}
use Rattle.elf_loader.proofs.laws.segments_are_in_memory.Goals as goal

pub returns : goal.returns
returns c = record {
  inside = in_memory c.args.file.now c.args.base c.args.size c.requires;
  elsewhere = zero_elsewhere c.args.file.now c.args.base c.args.size;
}
