mod Unspelled
pub mod Telling
