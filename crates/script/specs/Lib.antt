pub mod Named
pub mod Language
pub mod Meaning
