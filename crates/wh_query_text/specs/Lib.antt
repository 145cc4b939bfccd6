pub mod Parse
pub mod Pieces
pub mod Tail
