pub mod Run
pub mod Demand3
pub mod Place
pub mod Tests
pub mod Worked
