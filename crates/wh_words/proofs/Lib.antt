mod Command
mod Forms
mod Sales
mod Utf8
mod Walked
