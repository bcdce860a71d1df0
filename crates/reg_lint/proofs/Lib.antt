mod EnteredLemmas
mod LawLemmas
mod KeptLemmas
mod LiveLemmas
mod MarkLemmas
mod StepLemmas
mod TextLemmas
pub mod VoiceLemmas
mod ToldLemmas
mod PermutedLemmas
mod RuleLemmas
mod ScreenLemmas
mod WordLemmas
mod SiftLemmas
mod DisputeLemmas
