pub mod Hosting
pub mod Isolation
