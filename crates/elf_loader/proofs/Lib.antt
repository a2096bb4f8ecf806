mod CopyFacts
mod FillFacts
mod LawFacts
pub mod LoadedFacts
pub mod PlainFacts
mod RangeFacts
pub mod RefusalFacts
mod SegmentFacts
