pub mod Deeds
pub mod Exchanges
pub mod Apart
pub mod Examples
pub mod Deaths
pub mod Moved
pub mod Spent
