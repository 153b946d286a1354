mod Kept
mod Tables
mod Entries
mod Whole
mod Unique
