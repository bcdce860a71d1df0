pub mod Walks
pub mod EntryLemmas
pub mod FilesLemmas
pub mod Props
pub mod Took
