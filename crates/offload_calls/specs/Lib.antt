pub mod Calls
pub mod Stores
pub mod State
pub mod Effects
pub mod LineUses
pub mod HartAct
pub mod CoreActs
