pub mod Summing
pub mod Totals
pub mod Learning
pub mod Closing
