pub mod Keys
pub mod News
pub mod Codes
pub mod Hidden
pub mod Watching
pub mod Revived
