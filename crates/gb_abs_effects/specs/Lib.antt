pub mod Accesses
pub mod ByRules
pub mod Sound
pub mod Pairs
pub mod Sides
pub mod Targets
pub mod Transfer
pub mod Below
