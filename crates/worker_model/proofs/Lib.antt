pub mod More
pub mod Alone
pub mod TurnLaws
pub mod Events
pub mod Examples
pub mod Resting
