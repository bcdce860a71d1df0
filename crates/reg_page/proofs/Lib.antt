pub mod LoopLemmas
pub mod CodeLemmas
pub mod NumberLemmas
pub mod PartLemmas
pub mod EventLemmas
pub mod SectionLemmas
pub mod DescribeLemmas
pub mod SideLemmas
mod RowLemmas
mod SameTextLemmas
mod ToldLemmas
pub mod WholeLemmas
pub mod IdLemmas
pub mod FindLemmas
pub mod ActLemmas
pub mod SameLemmas
pub mod BlockLemmas
pub mod GapPieces
pub mod WritingLemmas
pub mod OneLemmas
mod NeighbourLemmas
mod TextLemmas
