pub mod Effects
pub mod Fresh
pub mod Making
pub mod Rows
