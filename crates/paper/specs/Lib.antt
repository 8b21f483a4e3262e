pub mod Paper
pub mod Demands
