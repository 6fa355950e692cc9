pub mod Watch
pub mod Played
pub mod Ready
pub mod Verified
pub mod Below
