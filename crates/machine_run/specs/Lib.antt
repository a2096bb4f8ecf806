pub mod Filing
pub mod Going
pub mod Running
pub mod Tasks
pub mod Turning
