pub mod Fronts
pub mod Holding
pub mod Calls
pub mod Laws
pub mod Seen
pub mod Sink
pub mod Streaming
pub mod Using
