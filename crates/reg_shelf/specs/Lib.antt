pub mod Shelf
pub mod Keep
pub mod Ready
