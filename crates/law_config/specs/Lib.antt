pub mod Says
pub mod Laws
pub mod Examples
