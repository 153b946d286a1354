pub mod Words
pub mod Address
pub mod Rows
pub mod Judge
pub mod Whole
pub mod Examples
