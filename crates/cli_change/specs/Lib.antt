pub mod Desks
pub mod Lists
