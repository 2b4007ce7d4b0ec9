pub mod CallLemmas
pub mod NodeLemmas
pub mod PartLemmas
pub mod PlacedLemmas
pub mod TestLemmas
