mod Gathering
mod Laws
mod Meets
mod One
mod Rows
mod SeatRows
