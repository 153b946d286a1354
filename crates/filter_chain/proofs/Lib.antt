pub mod Sizes
pub mod Releasing
pub mod Weights
pub mod Picks
pub mod Flows
pub mod Examples
