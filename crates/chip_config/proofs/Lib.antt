pub mod JudgingLemmas
pub mod RangeFacts
pub mod ReadingLemmas
