pub mod Traffic
pub mod Lives
pub mod Laws
pub mod Framings
pub mod Ends
pub mod Responses
pub mod Own
