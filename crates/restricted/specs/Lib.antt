pub mod Restricted
