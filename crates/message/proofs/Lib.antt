pub mod Values
pub mod Taking
pub mod Putting
pub mod Writing
