pub mod Set
pub mod Bytes
pub mod Marks
pub mod Short
