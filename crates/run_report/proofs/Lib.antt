pub mod FlatFacts
pub mod ReportLemmas
