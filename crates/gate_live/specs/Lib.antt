pub mod LogLine
pub mod Logged
pub mod Sites
pub mod Timed
pub mod Worlds
