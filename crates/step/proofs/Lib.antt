pub mod Texts
pub mod Sames
pub mod Copying
