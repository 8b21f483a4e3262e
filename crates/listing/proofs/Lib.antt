pub mod Passes
pub mod Accepted
pub mod Branches
pub mod Told
