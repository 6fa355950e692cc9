pub mod Cartridge
pub mod KeptBytes
pub mod Plain
pub mod Sink
pub mod Text
pub mod Below
