pub mod Bodies
pub mod Looks
pub mod Stands
pub mod States
pub mod Views
pub mod Walks
