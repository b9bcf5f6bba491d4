pub mod Taking
pub mod Keeping
pub mod Writing
