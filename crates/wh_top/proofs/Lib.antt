pub mod Apart
pub mod Counts
pub mod Inputs
pub mod Lines
pub mod Outputs
pub mod Parts
pub mod Runnable
pub mod SoFar
