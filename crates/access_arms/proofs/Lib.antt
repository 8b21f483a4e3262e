pub mod Laws
pub mod Formed
