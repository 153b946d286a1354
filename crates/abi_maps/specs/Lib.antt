pub mod Buffers
pub mod Examples
pub mod Maps
pub mod Streams
