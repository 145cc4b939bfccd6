pub mod Over
pub mod Answered
