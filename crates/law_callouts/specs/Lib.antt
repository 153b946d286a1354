pub mod Scenes
pub mod Calls
pub mod Sound
pub mod Ends
pub mod Workers
pub mod GoingOut
pub mod OneFate
