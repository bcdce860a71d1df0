pub mod Units
pub mod Conditions
pub mod Checking
pub mod Keys
pub mod Parts
pub mod Usages
pub mod Kinds
pub mod Points
