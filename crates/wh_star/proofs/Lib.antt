pub mod Products
pub mod Found
mod Worked
pub mod Rounds
pub mod Extremes
pub mod Stable
pub mod Entries
pub mod Scans
pub mod Admitted
pub mod Joins
pub mod Meant
pub mod Spread
pub mod Within
pub mod Pruned
pub mod Plain
