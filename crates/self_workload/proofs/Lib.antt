pub mod DrawFacts
pub mod WordFacts
