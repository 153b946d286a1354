pub mod Lines
pub mod Laws
pub mod Passing
pub mod Examples
