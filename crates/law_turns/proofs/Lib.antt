pub mod General
pub mod Following
pub mod Texts
pub mod Begins
pub mod Noted
pub mod Uploads
pub mod Downloads
pub mod Order
pub mod Effects
pub mod Answer
pub mod Death
pub mod Parts
pub mod Passage
pub mod Waiting
mod Starts
mod Leaving
mod Firsts
pub mod Backlog
mod BacklogTurns
mod Ended
mod Due
mod Rules
mod Interim
mod Deaths
