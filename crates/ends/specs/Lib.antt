pub mod Calls
pub mod Format
pub mod Questions
pub mod Shared
pub mod Prover
pub mod Verifier
