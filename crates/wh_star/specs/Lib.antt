pub mod Found
pub mod Bounds
pub mod Lookups
pub mod Marked
