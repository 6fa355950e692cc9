pub mod Fetches
pub mod Guarding
pub mod Limiting
pub mod Meeting
pub mod Quiet
pub mod Touching
