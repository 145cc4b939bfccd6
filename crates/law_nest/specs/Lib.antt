pub mod Each
pub mod Rolled
pub mod Placed
pub mod Laws
pub mod Sample
