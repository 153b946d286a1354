pub mod Hosted
pub mod Isolated
