pub mod Ahead
pub mod Asking
pub mod Cuts
pub mod Lifting
