pub mod Asking
pub mod Calls
pub mod Isolation
pub mod Laws
pub mod Reading
pub mod Rows
pub mod Table
pub mod Writing
