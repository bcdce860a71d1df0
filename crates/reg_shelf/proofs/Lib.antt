pub mod Contents
mod Kept
mod Outcomes
