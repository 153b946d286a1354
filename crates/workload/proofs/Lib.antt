mod Tallies
mod Sharing
mod Lines
mod Validity
