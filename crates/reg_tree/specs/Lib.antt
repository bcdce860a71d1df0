pub mod Chain
pub mod Listed
pub mod Offices
pub mod Over
pub mod Sayings
pub mod Voices
