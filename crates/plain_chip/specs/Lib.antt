pub mod Events
pub mod Views
pub mod Shows
pub mod Turns
pub mod MachineLaws
