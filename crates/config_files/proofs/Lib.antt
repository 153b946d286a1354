pub mod Misfits
pub mod Over
pub mod Read
pub mod Steps
