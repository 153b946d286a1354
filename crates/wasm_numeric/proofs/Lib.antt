pub mod Quotients
pub mod Traps
pub mod Readings
pub mod Moves
