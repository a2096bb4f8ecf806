pub mod Again
pub mod HandedOut
pub mod Marked
pub mod Moves
pub mod Parts
pub mod Steps
