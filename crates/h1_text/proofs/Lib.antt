pub mod Marked
pub mod Skips
pub mod Splits
pub mod Unmarked
pub mod Values
pub mod Worked
