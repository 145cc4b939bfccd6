pub mod Journal
pub mod Laws
pub mod Lending
pub mod Rule
pub mod Steps
pub mod Words
