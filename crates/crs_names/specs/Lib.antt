pub mod Nodes
pub mod Name
pub mod Key
pub mod Unit
pub mod Odd
