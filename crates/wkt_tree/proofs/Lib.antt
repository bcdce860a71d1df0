pub mod Lexemes
pub mod PlainRuns
pub mod ClosingMark
pub mod Cuts
pub mod Scans
pub mod Stacks
pub mod Exclusion
pub mod Trees
pub mod Unread
pub mod Unique
pub mod Utf8
pub mod Sound
pub mod Stands
pub mod First
pub mod OneTree
mod Classes
