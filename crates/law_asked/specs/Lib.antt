pub mod Asked
pub mod Laws
pub mod Examples
pub mod Filters
pub mod FilterExamples
pub mod Begins
pub mod Directions
pub mod LineExamples
