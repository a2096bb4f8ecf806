use Rattle.std.proofs.Common.{sym, ◌∙◌, arith}
use Rattle.elf_loader.proofs.CopyFacts.{copied}
use Rattle.elf_loader.proofs.memory.copy_segment.Goals as goal

pub returns-then-segment-ne0 : goal.returns-then-segment-ne0
returns-then-segment-ne0 c =
    λ k h. copied c.args.file.now c.args.memory.now c.copy_from_slice.new.self c.args.base k _ c.args.segment.now
    (sym c.is_live.ensures ∙ c.if-is_live.true) c.requires.good c.requires.inside c.if-segment-ne0.true (omega arith) c.copy_from_slice.ensures.after h
