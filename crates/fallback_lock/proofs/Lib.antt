pub mod LockLemmas
