pub mod Seats
pub mod Faced
pub mod Rounds
pub mod Steps
pub mod Spots
pub mod Racing
pub mod Told
