pub mod Parts
pub mod Run
pub mod Held
pub mod Tally
