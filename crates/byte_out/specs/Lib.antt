pub mod Input
pub mod Place
pub mod Replace
pub mod Names
pub mod Own
