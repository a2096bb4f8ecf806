pub mod Header
pub mod Image
pub mod Loaded
pub mod Plain
pub mod Refusal
pub mod Segments
