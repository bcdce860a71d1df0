pub mod ByteLemmas
pub mod MarkLemmas
