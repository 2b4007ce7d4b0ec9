pub mod World
pub mod Steps
pub mod Turns
pub mod Stands
pub mod Runs
pub mod Laws
pub mod Since
