pub mod Named
pub mod Went
pub mod Passes
pub mod Promises
pub mod Deployments
pub mod Stepping
