pub mod Lawful
pub mod Leasts
pub mod Rooms
