pub mod Course
pub mod Steps
pub mod Ways
