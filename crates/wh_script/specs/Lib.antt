pub mod Sections
pub mod Drafts
pub mod Pieces
pub mod Built
pub mod Texts
pub mod Known
