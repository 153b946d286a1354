pub mod Runs
pub mod Homes
pub mod Denying
pub mod Made
pub mod Bare
pub mod Marks
pub mod Gone
pub mod Fuel
