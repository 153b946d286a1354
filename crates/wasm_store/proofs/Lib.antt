pub mod Placing
pub mod Outside
pub mod Lowest
pub mod Constants
pub mod Kept
pub mod Empty
pub mod Causes
