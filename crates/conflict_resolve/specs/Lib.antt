pub mod Backs
pub mod Commits
pub mod InRange
pub mod Merges
