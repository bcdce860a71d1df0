pub mod Moments
mod RecordLemmas
mod SpanLemmas
mod PendingLemmas
