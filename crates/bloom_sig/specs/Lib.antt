pub mod Images
pub mod Places
pub mod Segments
pub mod Signatures
pub mod Words
