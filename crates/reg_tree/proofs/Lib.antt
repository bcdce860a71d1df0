pub mod Neighbours
pub mod Halves
pub mod Held
pub mod OfficeLemmas
mod PieceLemmas
pub mod ListLemmas
pub mod SayingLemmas
mod OrderLemmas
mod PruneLemmas
mod LinkLemmas
mod OverLemmas
pub mod WordLemmas
mod VoiceLemmas
mod GatheredLemmas
mod LostLemmas
