pub mod Halving
pub mod Doubling
