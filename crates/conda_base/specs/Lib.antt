pub mod Bytes
pub mod Digits
pub mod LineLists
pub mod Lines
pub mod Marks
