mod Answered
mod Fault
mod Commands
mod Loaded
mod OneFile
mod FilesRead
mod Generator
