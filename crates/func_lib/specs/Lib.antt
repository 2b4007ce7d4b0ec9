pub mod Arguments
pub mod Arrays
pub mod Base64
pub mod Functions
pub mod Json
pub mod Replacing
pub mod Texts
pub mod Urls
