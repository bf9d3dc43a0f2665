mod Held
mod Seats
