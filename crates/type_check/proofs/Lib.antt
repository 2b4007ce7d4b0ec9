mod AllLemmas
mod CallLemmas
mod JudgeForms
mod KindLemmas
mod ListLemmas
mod NamesLemmas
pub mod NodeSenses
pub mod Senses
pub mod NodeTrees
mod PlacedLemmas
mod ToldLemmas
mod WalkLemmas
