pub mod Stirring
pub mod Wishes
pub mod Hearing
