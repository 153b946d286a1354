pub mod Events
pub mod Filter
pub mod Tallies
pub mod Examples
