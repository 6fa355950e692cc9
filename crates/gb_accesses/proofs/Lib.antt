pub mod Fetching
pub mod Joining
pub mod Below
pub mod Plainly
