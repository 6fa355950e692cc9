pub mod Lowest
pub mod Telling
pub mod Watching
pub mod FileLaws
pub mod Below
