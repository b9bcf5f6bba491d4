-- The lemmas of the proofs.
pub mod Table
pub mod Rounds
pub mod Filling
pub mod Bitwise
pub mod Chunks
pub mod Made
