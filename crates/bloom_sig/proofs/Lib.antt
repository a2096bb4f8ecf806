pub mod HitLemmas
pub mod ImageLemmas
pub mod PlaceLemmas
pub mod SegmentLemmas
pub mod SegmentWords
pub mod VectorLemmas
pub mod WordLemmas
