pub mod LinesLemmas
pub mod SliceLemmas
pub mod ReadingLemmas
pub mod EchoLemmas
