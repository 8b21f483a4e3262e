pub mod Formed
pub mod Laws
