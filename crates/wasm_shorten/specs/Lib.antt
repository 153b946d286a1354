pub mod Shortened
