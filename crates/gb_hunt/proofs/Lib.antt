pub mod Guarding
pub mod Parsing
pub mod Below
