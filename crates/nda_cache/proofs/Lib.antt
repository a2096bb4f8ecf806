pub mod IndexFacts
pub mod LineFacts
pub mod SetFacts
pub mod StoredFacts
pub mod TriedFacts
pub mod LookFacts
pub mod SlotFacts
