pub mod Ends
pub mod Fills
pub mod Laws
pub mod Limits
pub mod Serial
pub mod Tries
