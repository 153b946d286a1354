pub mod Views
pub mod Keeps
pub mod Parts
pub mod Meets
pub mod Closes
pub mod Calls
pub mod Apart
