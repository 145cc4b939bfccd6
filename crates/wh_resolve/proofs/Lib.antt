pub mod Places
pub mod Firsts
pub mod Repeats
pub mod Growing
pub mod Whole
