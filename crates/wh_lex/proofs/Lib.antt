pub mod Steps
pub mod Texts
pub mod Spans
pub mod Numbers
pub mod Statements
