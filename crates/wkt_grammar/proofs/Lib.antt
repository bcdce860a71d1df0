pub mod Walks
pub mod Missing
pub mod Tables
mod RowNames
pub mod Editions
pub mod Keywords
pub mod Steps
pub mod Found
pub mod Reach
pub mod Whole
pub mod Fitting
pub mod Clean
pub mod StillClean
mod Entered
pub mod NodeRows
pub mod Leaves
pub mod Nodes
pub mod FirstEdition
