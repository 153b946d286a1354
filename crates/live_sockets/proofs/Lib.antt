pub mod Asking
pub mod Begun
pub mod CallLines
pub mod Due
pub mod Homes
pub mod Kept
pub mod Noticed
pub mod Readings
