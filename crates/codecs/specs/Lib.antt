pub mod Fields
pub mod Scalars
pub mod ScalarsLemmas
