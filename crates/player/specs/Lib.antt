pub mod Taken
pub mod Plays
