pub mod Spanning
pub mod Trees
