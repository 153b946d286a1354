mod Losses
mod Places
mod Jobs
