pub mod Traffic
pub mod Quiet
pub mod Ups
pub mod Lives
pub mod Framings
pub mod Ends
pub mod Responses
pub mod Own
