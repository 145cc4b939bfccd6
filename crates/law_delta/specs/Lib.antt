pub mod Deltas
pub mod Moved
pub mod ByRowid
pub mod Masked
pub mod Restored
pub mod Laws
