pub mod Journals
pub mod Lawful
pub mod Listed
pub mod Ordered
pub mod Steps
pub mod Summed
pub mod Told
