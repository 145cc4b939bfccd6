mod Built
mod Counting
mod Reading
mod Whole
