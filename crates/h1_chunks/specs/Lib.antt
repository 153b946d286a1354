pub mod Answers
pub mod Held
pub mod Seen
pub mod Spans
pub mod Waits
