pub mod Answers
pub mod Faults
pub mod LastFile
pub mod Preparing
pub mod StatusText
pub mod Verdict
