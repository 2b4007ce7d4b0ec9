pub mod CleanLemmas
pub mod IntervalLemmas
pub mod ListLemmas
pub mod PrefixLemmas
pub mod ReadingLemmas
pub mod FlawLemmas
pub mod SpanLemmas
