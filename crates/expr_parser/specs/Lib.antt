pub mod Depth
pub mod Machine
pub mod Parsed
pub mod Reading
pub mod Reread
pub mod Spelling
pub mod Testing
