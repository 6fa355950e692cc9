pub mod Lines
pub mod Packing
pub mod Playing
pub mod Files
pub mod ShowLaws
pub mod Below
