pub mod Items
pub mod Chains
pub mod Costs
pub mod Flow
pub mod Examples
