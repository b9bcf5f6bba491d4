pub mod Stack
pub mod Listed
pub mod Rows
pub mod Walk
pub mod Patterns
pub mod Nests
