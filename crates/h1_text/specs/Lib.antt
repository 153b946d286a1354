pub mod Cuts
pub mod Examples
pub mod Members
pub mod Names
pub mod Spans
pub mod Wanted
