pub mod Linked
pub mod Chains
