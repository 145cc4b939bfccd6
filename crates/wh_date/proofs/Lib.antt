pub mod Digits
pub mod Civil
