pub mod Beginning
pub mod Listed
pub mod Lookup
pub mod Viewing
pub mod Tabling
pub mod Showing
