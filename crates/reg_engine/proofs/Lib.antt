pub mod DriverLemmas
pub mod InputLemmas
mod OutputLemmas
pub mod ShelfLemmas
