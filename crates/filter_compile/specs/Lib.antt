pub mod Compiled
pub mod Plain
pub mod Slots
pub mod Steps
