pub mod FaultLemmas
pub mod SetLemmas
pub mod ListLemmas
pub mod ListedLemmas
