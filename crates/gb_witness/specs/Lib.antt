pub mod Fault
pub mod Line
pub mod Witness
pub mod Played
pub mod Files
pub mod Below
