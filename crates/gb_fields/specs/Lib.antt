pub mod Fault
pub mod Format
pub mod Limits
pub mod Reading
pub mod Rules
