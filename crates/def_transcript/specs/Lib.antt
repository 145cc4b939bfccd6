pub mod Texts
pub mod Transcript
