mod Sentences
mod ChangedLemmas
