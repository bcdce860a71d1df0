pub mod Lines
pub mod Sides
pub mod Shared
pub mod Hunks
pub mod Texts
pub mod Counting
pub mod Printed
