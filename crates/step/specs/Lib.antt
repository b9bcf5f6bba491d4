pub mod Printable
pub mod Texts
pub mod TagCodes
pub mod Tags
pub mod Steps
pub mod Comparing
pub mod Laws
