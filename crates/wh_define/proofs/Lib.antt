pub mod Bounds
pub mod Digits
pub mod Numbers
pub mod Places
pub mod Turns
pub mod Stages
pub mod Whole
