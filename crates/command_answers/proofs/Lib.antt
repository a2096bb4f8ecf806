pub mod AnswerFacts
pub mod LastFileFacts
pub mod ReadingFacts
