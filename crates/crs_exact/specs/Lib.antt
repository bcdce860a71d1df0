pub mod Names
pub mod Sizes
pub mod Parts
pub mod Said
pub mod Tables
pub mod Angles
