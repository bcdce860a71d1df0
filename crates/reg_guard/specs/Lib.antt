pub mod Admitting
pub mod Keeping
pub mod Stores
pub mod Making
pub mod Opening
