pub mod Quietly
mod Answered
mod CallSteps
