pub mod Earlier
pub mod Names
pub mod Kinds
pub mod Star
pub mod Resolve
