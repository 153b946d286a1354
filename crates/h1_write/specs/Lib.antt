pub mod Heads
pub mod Laws
pub mod Lines
pub mod Requests
pub mod Round
pub mod RoundExamples
pub mod Seen
