pub mod DotLemmas
pub mod JsonLemmas
pub mod JsonDocuments
pub mod SqlLemmas
mod JoinLemmas
mod NumeralLemmas
pub mod DocumentLemmas
mod InsertLemmas
pub mod LineLemmas
pub mod DrawingLemmas
mod EndLemmas
mod HeldLemmas
pub mod InTurn
