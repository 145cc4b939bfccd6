pub mod Counted
pub mod Evaluated
pub mod Steps
pub mod Views
pub mod Chosen
pub mod Named
