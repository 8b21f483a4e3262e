pub mod Halves
pub mod Entering
pub mod Tabling
pub mod Entries
pub mod Once
