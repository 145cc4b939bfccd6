pub mod Standing
pub mod Stepping
pub mod Contents
pub mod Turns
pub mod Moving
pub mod Always
pub mod Rows
