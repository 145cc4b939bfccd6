pub mod Reads
pub mod Checking
pub mod Generator
pub mod Output
pub mod Program
pub mod Headline
