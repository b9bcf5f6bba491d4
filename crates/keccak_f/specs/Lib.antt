-- The definitions behind Keccak-f[1600].
pub mod Words
pub mod Tables
pub mod Permutation
pub mod Lanes
