pub mod Commands
pub mod HeaderLine
pub mod Screen
pub mod Script
pub mod Show
pub mod Below
