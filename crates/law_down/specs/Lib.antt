pub mod Downward
pub mod Laws
pub mod InOrder
pub mod Examples
pub mod Ends
