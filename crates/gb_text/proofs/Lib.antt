pub mod Gained
pub mod Remaining
