pub mod Seats
pub mod Moving
pub mod Places
pub mod Making
pub mod Closed
pub mod Workers
pub mod Asked
pub mod Rows
