pub mod Journal
pub mod Runs
pub mod Text
pub mod Standing
pub mod Adding
pub mod Again
pub mod Journals
