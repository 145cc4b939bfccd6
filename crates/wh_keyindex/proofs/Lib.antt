pub mod Looked
pub mod Numbered
pub mod Placed
pub mod Tallied
