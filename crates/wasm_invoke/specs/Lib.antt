pub mod Arguments
pub mod Ends
pub mod Examples
pub mod Exports
pub mod Invoking
pub mod Laws
pub mod Readied
