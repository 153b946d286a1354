pub mod Shouting
