mod Fronts
mod Numbers
mod Worlds
