mod Calls
mod Lives
