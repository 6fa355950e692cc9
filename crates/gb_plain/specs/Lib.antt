pub mod Handed
pub mod Shown
