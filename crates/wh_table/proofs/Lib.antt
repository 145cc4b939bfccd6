pub mod Ordered
pub mod Living
pub mod Counting
pub mod Seen
pub mod Keeping
pub mod Reading
pub mod Changing
pub mod Numbered
