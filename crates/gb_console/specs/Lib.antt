pub mod Console
pub mod Frame
pub mod Run
pub mod Verified
pub mod Below
