pub mod Prefix
pub mod Laws
