pub mod Machine
pub mod Compute
pub mod Access
pub mod Branch
pub mod Step
