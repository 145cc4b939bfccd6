pub mod Coded
pub mod Indexes
pub mod Made
pub mod Undoing
