pub mod Conditions
pub mod Filters
pub mod Ordered
pub mod Placed
pub mod Resolved
pub mod Turns
pub mod Unique
