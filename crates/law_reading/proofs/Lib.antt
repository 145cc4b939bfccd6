mod Kept
mod Rules
mod Statements
mod Walk
mod Scripts
mod Sections
