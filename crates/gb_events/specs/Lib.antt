pub mod Replay
pub mod Verified
pub mod Line
pub mod Files
pub mod Below
pub mod Sinks
