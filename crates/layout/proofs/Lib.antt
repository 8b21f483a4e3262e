pub mod Points
pub mod Turns
pub mod Members
pub mod Blocks
pub mod Told
