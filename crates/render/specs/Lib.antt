pub mod Rendering
pub mod Laws
