pub mod Target
pub mod Names
pub mod Maps
pub mod Places
pub mod Fields
pub mod Kinds
pub mod Schemes
pub mod Values
