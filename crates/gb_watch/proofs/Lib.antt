pub mod Below
pub mod Counting
pub mod Judging
pub mod Parsing
pub mod Playing
pub mod Quietly
