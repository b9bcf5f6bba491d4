pub mod Sponge
pub mod Unitary
pub mod Words
pub mod Packing
pub mod Absorbing
