-- The lemmas of the proofs.
pub mod Mixing
pub mod Padding
pub mod Blocks
pub mod Parts
pub mod Digests
