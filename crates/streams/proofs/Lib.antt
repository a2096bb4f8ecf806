pub mod CopyFacts
pub mod FilesFacts
pub mod PutFacts
pub mod SinkFacts
pub mod StreamFacts
pub mod UsingFacts
