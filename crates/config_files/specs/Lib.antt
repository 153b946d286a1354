pub mod Modules
pub mod Loading
pub mod Plain
