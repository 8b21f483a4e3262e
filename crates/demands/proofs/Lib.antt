pub mod Rounds
pub mod Facing
pub mod Run
pub mod Stepping
pub mod Place
pub mod Tests
pub mod Demand3
pub mod Worked
