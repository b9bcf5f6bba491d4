pub mod Stacks
pub mod Nesting
pub mod Walking
pub mod Opening
pub mod Drafting
pub mod Agreeing
pub mod Complete
pub mod Sound
