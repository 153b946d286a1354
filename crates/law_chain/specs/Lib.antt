pub mod Acts
pub mod PassThrough
pub mod Examples
pub mod Sound
pub mod Laws
