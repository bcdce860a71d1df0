pub mod Spells
pub mod Faults
pub mod Source
pub mod Passing
pub mod Definition
pub mod Verdict
pub mod Unspelled
