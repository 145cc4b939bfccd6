pub mod Capped
pub mod Sized
