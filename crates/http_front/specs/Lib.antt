pub mod Heads
pub mod Framing
pub mod Reading
pub mod Replies
pub mod Places
pub mod Steps
