pub mod MeaningLemmas
pub mod WentLemmas
pub mod SteppingLemmas
pub mod PickLemmas
pub mod Crosses
