pub mod Access
pub mod Plain
pub mod Below
