pub mod FlatText
pub mod Runs
pub mod Texts
pub mod View
pub mod Writes
