pub mod Fault
pub mod Names
pub mod Inputs
pub mod Outputs
pub mod Shelf
pub mod Store
pub mod Either
pub mod WholeFile
