mod Windows
mod Steps
mod Kept
mod Outcomes
pub mod Slots
mod Chunks
mod Quiet
pub mod OneShelf
