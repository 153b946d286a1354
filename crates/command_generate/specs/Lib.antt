pub mod Items
pub mod Setting
pub mod Generating
pub mod Examples
