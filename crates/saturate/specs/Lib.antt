pub mod Saturate
