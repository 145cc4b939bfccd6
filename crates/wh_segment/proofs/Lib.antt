pub mod Joined
pub mod Replacing
pub mod Lawful
pub mod Removing
