-- The definitions behind Keccak-256.
pub mod Sponge
pub mod Blocks
pub mod Hasher
pub mod Laws
