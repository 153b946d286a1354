pub mod Heads
pub mod Places
pub mod Readings
pub mod Dying
pub mod Firsts
pub mod Stirs
pub mod Wished
pub mod Listing
