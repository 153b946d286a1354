pub mod Replay
pub mod Delivered
pub mod Laws
