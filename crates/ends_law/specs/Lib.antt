pub mod Pasts
pub mod Provers
pub mod Law
