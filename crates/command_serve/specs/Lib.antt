pub mod Summary
pub mod Examples
pub mod Serving
