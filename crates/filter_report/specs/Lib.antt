pub mod Report
pub mod Reporting
pub mod Examples
