mod Slashes
mod Kept
mod Within
mod OneMore
mod Held
