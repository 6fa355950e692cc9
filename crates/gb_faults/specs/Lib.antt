pub mod Limits
pub mod Meeting
pub mod Quiet
pub mod Touch
pub mod Below
