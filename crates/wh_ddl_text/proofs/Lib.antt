pub mod Commas
pub mod PlainNames
pub mod Splits
pub mod TextNames
