pub mod Laws
pub mod Register
