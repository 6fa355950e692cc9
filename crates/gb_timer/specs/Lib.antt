pub mod Bits
pub mod Interrupts
pub mod Joypad
pub mod Timer
