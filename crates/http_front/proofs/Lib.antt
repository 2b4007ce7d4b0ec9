pub mod LengthLemmas
pub mod LineLemmas
pub mod PlaceLemmas
pub mod ReadingLemmas
pub mod LinkLemmas
pub mod ReplyLemmas
