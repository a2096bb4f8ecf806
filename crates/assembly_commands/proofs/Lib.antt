pub mod AssemblingFacts
pub mod DisassemblingFacts
pub mod MakingFacts
pub mod TextFacts
