pub mod SidesRead
pub mod Followed
pub mod Logged
pub mod Planned
pub mod Fast
pub mod Parted
pub mod Midway
