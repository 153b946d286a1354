pub mod Http
pub mod Callbacks
