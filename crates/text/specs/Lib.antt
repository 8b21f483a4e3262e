pub mod Text
pub mod Code
pub mod Bytes
