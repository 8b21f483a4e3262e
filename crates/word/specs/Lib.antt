pub mod Sole
pub mod Word
