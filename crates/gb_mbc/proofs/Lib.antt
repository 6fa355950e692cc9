pub mod Halted
pub mod Featured
pub mod Seconds
pub mod Below
