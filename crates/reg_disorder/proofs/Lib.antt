mod RowLemmas
mod ListLemmas
pub mod TextLemmas
mod KeyLemmas
mod LinkLemmas
mod HeirLemmas
mod AmissLemmas
mod Firsts
pub mod Inheriting
pub mod Allowed
mod LinksListed
mod ForHeirs
pub mod Rows
pub mod Passes
mod Steps
pub mod Settled
mod Candidates
mod Kept
mod Repeated
mod MarkLemmas
pub mod MarkOrder
pub mod StandingLemmas
