pub mod Asked
pub mod Asking
pub mod Changes
pub mod Changing
pub mod Picking
pub mod Placed
pub mod Setting
pub mod Sized
