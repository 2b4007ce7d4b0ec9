pub mod Calls
pub mod Given
pub mod Passed
pub mod Seen
pub mod Settings
