pub mod StoreLemmas
pub mod HartFacts
pub mod SpanFacts
pub mod StepFacts
