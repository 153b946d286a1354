pub mod Routes
pub mod Kept
pub mod Plain
pub mod Laws
pub mod Examples
pub mod Given
