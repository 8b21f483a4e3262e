pub mod Landing
pub mod Code
