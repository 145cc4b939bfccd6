pub mod Buffered
pub mod Held
pub mod Kept
pub mod Log
pub mod Laws
