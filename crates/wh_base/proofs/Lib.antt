pub mod Quotients
pub mod Same
pub mod SameItems
pub mod Sorting
pub mod Calendar
