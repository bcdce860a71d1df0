pub mod Shelf
pub mod Keep
pub mod Names
pub mod Ready
