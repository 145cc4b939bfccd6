pub mod Gives
pub mod Repeats
pub mod Sorts
