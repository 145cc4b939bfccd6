mod Sizes
pub mod FreshSteps
pub mod FreshMarks
pub mod FreshCounts
pub mod FreshNow
mod Looked
mod Made
mod Inserted
mod Shapes
mod Final
mod Ending
mod Lifting
mod Running
