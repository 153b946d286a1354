pub mod Commands
pub mod Scripts
pub mod Prints
pub mod ScriptWorld
pub mod Laws
pub mod Examples
