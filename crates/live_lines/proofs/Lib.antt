pub mod Hearing
pub mod Lasting
pub mod Passing
pub mod Turns
