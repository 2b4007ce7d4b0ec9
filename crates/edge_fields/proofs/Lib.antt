pub mod KindsLemmas
pub mod MapsLemmas
pub mod NamesLemmas
pub mod PieceLemmas
pub mod PlaceLemmas
pub mod PlacesLemmas
pub mod TargetLemmas
