pub mod Bounds
pub mod Made
pub mod Places
pub mod Sizes
pub mod Sorts
