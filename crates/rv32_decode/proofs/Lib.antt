mod FieldLemmas
mod RangeLemmas
mod TableLemmas
mod ImmediateLemmas
pub mod GivenBack
pub mod RoundTrip
