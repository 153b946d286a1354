pub mod Fitting
pub mod Joined
pub mod Lone
pub mod OneAnswer
pub mod Worked
pub mod WorkedWhole
