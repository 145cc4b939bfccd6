pub mod Kept
pub mod Asked
pub mod Calls
pub mod Put
