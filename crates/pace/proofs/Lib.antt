pub mod Table
pub mod Lengths
pub mod Passing
