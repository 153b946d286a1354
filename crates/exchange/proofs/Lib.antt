pub mod Lengths
mod Answered
mod Trailing
mod Examples
