pub mod Places
pub mod Quietly
pub mod CallSteps
pub mod Turns
pub mod ByPlan
pub mod Wants
