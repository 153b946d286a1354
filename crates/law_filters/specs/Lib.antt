pub mod Roots
pub mod Heads
pub mod Onward
pub mod Every
pub mod Examples
pub mod EveryExamples
pub mod Ended
