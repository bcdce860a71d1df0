pub mod Alike
pub mod Condensed
pub mod CondensedLaw
pub mod Layout
pub mod Pieces
pub mod Reads
pub mod WellFormed
