pub mod Width
pub mod Prefix
