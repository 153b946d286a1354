pub mod Examples
pub mod FramingExamples
pub mod Laws
