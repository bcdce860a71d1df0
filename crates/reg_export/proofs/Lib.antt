mod TextLemmas
pub mod NotedLemmas
pub mod ChosenLemmas
pub mod NameLemmas
pub mod CaseLemmas
pub mod SortLemmas
pub mod TwinLemmas
pub mod FileLemmas
pub mod RowLemmas
mod EachLemmas
mod DrawnLemmas
mod ReadLemmas
mod SheetLemmas
mod LabelLemmas
mod WrittenLemmas
mod BeginLemmas
