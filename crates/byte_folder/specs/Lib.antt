pub mod Folder
pub mod Put
pub mod Names
