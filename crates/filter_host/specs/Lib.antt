pub mod Heard
pub mod Course
pub mod Runs
pub mod Once
pub mod Called
