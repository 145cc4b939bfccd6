pub mod Beside
pub mod Places
pub mod Fresh
pub mod Candidates
pub mod Chosen
