pub mod Crosses
mod EntryLemmas
mod SpokenLemmas
