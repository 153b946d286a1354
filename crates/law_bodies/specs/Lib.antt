pub mod Bodies
pub mod Bounds
pub mod Lives
pub mod Steps
