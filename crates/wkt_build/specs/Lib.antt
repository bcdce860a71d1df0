pub mod Ahead
pub mod Reads
pub mod Leaves
pub mod Choices
pub mod Single
pub mod Rest
pub mod Whole
