pub mod Before
pub mod Counted
pub mod Kept
pub mod Keys
pub mod Points
pub mod Touching
pub mod UpperBounds
