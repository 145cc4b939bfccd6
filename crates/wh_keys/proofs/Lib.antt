pub mod Each
pub mod PlaceTurns
pub mod PlaceValues
pub mod Places
pub mod Standing
pub mod Tables
pub mod Turns
pub mod Undone
