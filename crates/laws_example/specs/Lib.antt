pub mod Atomics
pub mod Configs
pub mod Locks
pub mod Programs
pub mod Runs
pub mod SilentStores
pub mod TwoCores
pub mod TwoHarts
