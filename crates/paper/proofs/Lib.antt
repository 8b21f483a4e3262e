pub mod Worked
pub mod Registers
pub mod Writes
pub mod Holds
pub mod Demands
pub mod Steers
pub mod Came
pub mod Parting
