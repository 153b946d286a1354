pub mod Dated
pub mod Examples
pub mod FramingProofs
pub mod Moments
pub mod Wires
