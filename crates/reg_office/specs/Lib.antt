pub mod Making
pub mod Names
pub mod Commands
pub mod Effects
pub mod Repeats
pub mod Pooled
pub mod World
pub mod Reached
