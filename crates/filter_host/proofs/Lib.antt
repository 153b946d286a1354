pub mod Once
pub mod Holds
