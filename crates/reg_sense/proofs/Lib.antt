mod LeastLemmas
pub mod AlikeLemmas
mod TallyLemmas
mod MostLemmas
mod NameLemmas
mod TwinLemmas
mod OtherLemmas
pub mod OrderLemmas
