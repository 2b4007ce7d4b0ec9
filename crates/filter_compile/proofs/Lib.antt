pub mod CodeLemmas
pub mod ParityLemmas
pub mod PartLemmas
pub mod PlacedLemmas
pub mod PlainLemmas
pub mod RunLemmas
pub mod SlotLemmas
