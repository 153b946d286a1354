pub mod Living
mod Passing
mod Stepwise
mod Bounding
