pub mod Adding
pub mod Crosses
pub mod Fronts
pub mod NoticeLemmas
pub mod Ruled
