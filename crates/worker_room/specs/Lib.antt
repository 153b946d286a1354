pub mod Fate
pub mod Calls
