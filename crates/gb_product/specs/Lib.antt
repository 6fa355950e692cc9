pub mod Covering
pub mod Held
pub mod Meaning
pub mod Reduced
pub mod Sides
pub mod Sound
pub mod Below
