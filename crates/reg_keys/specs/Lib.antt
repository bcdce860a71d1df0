pub mod Words
pub mod Named
pub mod Index
pub mod Told
pub mod Every
