pub mod CommandFacts
pub mod OptionFacts
pub mod ValueFacts
