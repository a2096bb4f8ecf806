pub mod NamingLemmas
pub mod EveryLemmas
pub mod AtomicLemmas
pub mod ApartLemmas
