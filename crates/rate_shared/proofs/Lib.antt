pub mod Seats
pub mod Counting
pub mod Kept
pub mod Stepped
pub mod SeenLemmas
pub mod MakingLemmas
pub mod CloseLemmas
pub mod GatherLemmas
