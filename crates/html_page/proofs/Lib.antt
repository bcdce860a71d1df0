pub mod EscapedLemmas
pub mod MarkLemmas
mod HiddenLemmas
mod CharacterLemmas
pub mod PlaceLemmas
pub mod JoinLemmas
pub mod PageLemmas
pub mod WordLemmas
mod UnmarkedLemmas
pub mod TextLemmas
mod ReadLemmas
pub mod SaidLemmas
