pub mod Fields
pub mod Tables
pub mod Ranges
pub mod Decoding
pub mod Encoding
