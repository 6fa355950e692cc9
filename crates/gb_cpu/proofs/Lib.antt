pub mod Halting
pub mod Kept
pub mod Pending
pub mod Running
pub mod Below
pub mod Ready
