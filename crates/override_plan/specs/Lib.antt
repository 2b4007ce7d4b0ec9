pub mod Given
pub mod Speakers
