pub mod OneRequest
pub mod Sent
pub mod Laws
pub mod Examples
pub mod Runs
pub mod Lists
pub mod Maps
