pub mod Order
pub mod KeyState
pub mod Index
pub mod Stepping
pub mod Lane
pub mod Lanes
pub mod Laws
