pub mod Cases
pub mod Numbers
pub mod Integers
pub mod Bits
pub mod Sole
