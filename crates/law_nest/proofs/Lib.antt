pub mod Naming
pub mod Summing
pub mod Pairs
pub mod Meeting
pub mod Rolling
pub mod Nested
pub mod Placing
pub mod Placed_law
