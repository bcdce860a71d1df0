mod SameLemmas
mod FileLemmas
mod TakenLemmas
mod LawLemmas
mod EngineLemmas
pub mod AgainLemmas
pub mod AtOnceLemmas
mod OwnLemmas
mod MergingLemmas
