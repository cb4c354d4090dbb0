mod Laws
mod Seats
