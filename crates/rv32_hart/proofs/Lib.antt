mod CodeLemmas
pub mod WordLemmas
pub mod RegsFacts
pub mod PlanFacts
mod KeptFacts
