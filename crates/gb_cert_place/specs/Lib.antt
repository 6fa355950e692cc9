pub mod Blocks
pub mod Forms
pub mod Layout
pub mod Places
pub mod Standing
pub mod Stops
