pub mod Lines
pub mod Lists
pub mod Effects
pub mod Engine
pub mod Laws
