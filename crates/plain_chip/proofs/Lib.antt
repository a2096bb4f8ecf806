pub mod EventFacts
pub mod PlainFacts
pub mod ReportFacts
pub mod StandsFacts
