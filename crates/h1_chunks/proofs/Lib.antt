pub mod Ends
pub mod Runs
pub mod Sections
pub mod Sizes
pub mod Extensions
