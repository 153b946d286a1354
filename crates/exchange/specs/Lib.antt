pub mod Heads
pub mod Maps
pub mod Leaving
pub mod Answering
pub mod Passing
pub mod Laws
pub mod Examples
