pub mod Steps
pub mod Packs
pub mod Writing
