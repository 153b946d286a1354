pub mod Loop
pub mod Chain
pub mod Drops
pub mod Groups
pub mod Whole
