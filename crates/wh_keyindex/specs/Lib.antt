pub mod Children
pub mod Kept
pub mod Keyed
pub mod Marks
pub mod Tied
