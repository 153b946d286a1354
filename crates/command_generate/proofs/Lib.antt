mod Texts
mod Settled
mod Faults
mod Ending
