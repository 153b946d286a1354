pub mod Held
pub mod Kinds
pub mod Marked
pub mod Acted
pub mod Told
pub mod Rowed
pub mod Machines
pub mod Kept
