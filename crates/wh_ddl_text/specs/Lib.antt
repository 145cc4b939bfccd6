pub mod NameLists
pub mod Names
pub mod Pieces
pub mod Words
