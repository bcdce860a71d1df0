mod StepLemmas
mod WritingLemmas
