pub mod Run
pub mod Place
pub mod Chart
pub mod Ended
pub mod Code
