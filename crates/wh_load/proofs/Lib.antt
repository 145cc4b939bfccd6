pub mod Capping
mod Lines
mod Reading
