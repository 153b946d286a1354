mod Crews
mod Spaces
mod LineEnds
mod Texts
mod Readings
mod Orders
mod Walks
pub mod Worlds
