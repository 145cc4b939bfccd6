pub mod Places
pub mod Names
mod Literals
mod Loading
mod Refused
mod Unknown
mod Twice
mod Misfits
mod Comparing
mod Adding
mod Setting
mod Placing
mod Scanned
mod Shown
mod Sourcing
mod Stable
mod Stated
