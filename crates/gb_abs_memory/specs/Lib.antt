pub mod Items
pub mod Access
pub mod Kept
pub mod Shown
pub mod Sound
pub mod Windows
pub mod Below
