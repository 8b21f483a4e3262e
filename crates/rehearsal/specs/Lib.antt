pub mod Program
pub mod Code
