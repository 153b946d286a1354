pub mod Allowed
pub mod Heard
pub mod Lasting
pub mod Lines
pub mod Passing
pub mod Told
pub mod Turns
pub mod Waiting
