pub mod Tails
pub mod Lists
pub mod Digits
