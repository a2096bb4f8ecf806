pub mod EntryReading
pub mod Findings
pub mod Grammar
pub mod Laws
pub mod Schedule
pub mod Steps
pub mod Texts
pub mod Verdict
