pub mod Assembling
pub mod Disassembling
pub mod Making
pub mod TextLaws
