pub mod CommandFacts
pub mod EndFacts
pub mod HeadlineFacts
pub mod LawFacts
pub mod PrepareFacts
pub mod SelfRunFacts
