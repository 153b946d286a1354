pub mod Closing
pub mod Lives
pub mod Made
pub mod Laws
pub mod Moves
pub mod Fleet
pub mod Run
pub mod Alone
