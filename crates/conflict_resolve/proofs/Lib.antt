pub mod BackFacts
pub mod CommitFacts
pub mod CopyFacts
pub mod MergeFacts
pub mod MergeSteps
pub mod RangeFacts
