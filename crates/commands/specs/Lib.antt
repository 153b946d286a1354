pub mod Files
pub mod Call
pub mod Report
pub mod Scripts
pub mod Generated
pub mod Doing
pub mod Reading
pub mod Examples
