pub mod Beginning
pub mod Growing
pub mod Replying
pub mod Scripted
pub mod Taking
