mod EachLemmas
mod SaidLemmas
mod OrderLemmas
mod SayingLemmas
mod ListingLemmas
mod KeySheetLemmas
mod HeadLemmas
mod LawLemmas
mod GivenLemmas
mod LeftLemmas
pub use Rattle.reg_keys.proofs.NamedLemmas
