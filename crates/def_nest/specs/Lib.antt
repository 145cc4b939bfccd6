pub mod Names
pub mod Compose
