pub mod Bodies
pub mod Examples
pub mod Laws
pub mod Pieces
