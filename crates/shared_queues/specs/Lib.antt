pub mod Firsts
pub mod Owing
pub mod Seen
pub mod Tree
