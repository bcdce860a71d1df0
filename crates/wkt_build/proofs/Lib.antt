pub mod Steps
pub mod Rows
pub mod Held
pub mod LeafLemmas
pub mod Chosen
pub mod Roots
pub mod Plain
pub mod Coordinated
