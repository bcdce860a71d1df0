pub mod Slots
pub mod Equality
pub mod Words
