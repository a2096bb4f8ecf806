pub mod Regs
pub mod Code
pub mod Arithmetic
pub mod Act
pub mod Kept
