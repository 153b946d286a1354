pub mod Knowing
pub mod Places
pub mod Measuring
pub mod Totals
