pub mod BigEndian
pub mod LittleEndian
pub mod Eight
pub mod Splitting
