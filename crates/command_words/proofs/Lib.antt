pub mod Apps
pub mod Taken
pub mod Numbers
pub mod Cut
pub mod Mapped
