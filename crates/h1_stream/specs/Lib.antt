pub mod Behind
pub mod Seen
pub mod Steps
pub mod Laws
pub mod Quiet
