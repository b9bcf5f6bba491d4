pub mod Identifiers
pub mod Seeds
pub mod Laws
pub mod Domains
