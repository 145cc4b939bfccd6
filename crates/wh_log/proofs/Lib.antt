pub mod Picked
pub mod Searched
pub mod Orders
pub mod Lawful
pub mod Noted
