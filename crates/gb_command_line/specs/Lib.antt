pub mod Status
pub mod Below
