pub mod Logged
pub mod Timed
pub mod Worlds
