pub mod Places
pub mod Readings
pub mod Quiet
pub mod UnderWay
