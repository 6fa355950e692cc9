pub mod Covered
pub mod Procedures
pub mod Rules
pub mod Lowest
pub mod Safety
pub mod Frames
pub mod Below
pub mod Opened
