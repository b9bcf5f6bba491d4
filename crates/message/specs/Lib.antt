pub mod Lengths
pub mod Payloads
