pub mod Laws
pub mod Lowest
