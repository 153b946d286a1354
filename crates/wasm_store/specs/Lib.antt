pub mod Memories
pub mod Instances
pub mod Linking
pub mod Parted
pub mod LinkExamples
pub mod LinkCauses
