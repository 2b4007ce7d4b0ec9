pub mod Rule
pub mod Steps
pub mod Hands
pub mod Promise
pub mod Answering
pub mod Callers
pub mod Close
