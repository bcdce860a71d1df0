pub mod LineLemmas
mod SharedLemmas
mod TableLemmas
mod ChoiceLemmas
mod StepLemmas
mod PatchLemmas
mod HunkLemmas
mod CutSteps
mod Firsts
pub mod Nexts
pub mod EachCut
pub mod OneCut
mod Skips
pub mod Found
