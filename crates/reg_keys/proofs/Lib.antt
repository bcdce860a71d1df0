pub mod WordLemmas
pub mod AnswerLemmas
pub mod AnswerWalks
pub mod NamedLemmas
pub mod IndexLemmas
pub mod ToldLemmas
pub mod LawLemmas
pub mod EveryLemmas
