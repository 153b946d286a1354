pub mod InPlace
pub mod Measured
pub mod Refused
pub mod Sized
