mod KeepingLemmas
mod StoreLemmas
