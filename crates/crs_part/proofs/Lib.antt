pub mod Texts
pub mod Spelled
pub mod Found
