pub mod Headline
pub mod Replays
pub mod Serves
pub mod Statuses
pub mod Lines
pub mod Callbacks
pub mod Due
pub mod Failures
