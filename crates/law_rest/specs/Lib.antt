pub mod Readings
pub mod Moves
pub mod Left
pub mod Laws
pub mod Sizes
pub mod Limits
pub mod Paid
pub mod Examples
