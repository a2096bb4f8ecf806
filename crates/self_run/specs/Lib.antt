pub mod Designs
pub mod Generated
