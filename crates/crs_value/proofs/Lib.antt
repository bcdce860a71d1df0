pub mod Lists
pub mod Wholes
pub mod Checks
pub mod PartLemmas
pub mod AnyLemmas
pub mod PointLemmas
