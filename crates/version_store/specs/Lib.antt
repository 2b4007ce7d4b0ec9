pub mod Notices
pub mod Books
pub mod Rules
pub mod Agreed
