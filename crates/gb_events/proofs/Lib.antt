pub mod Runs
pub mod Listing
pub mod Replaying
pub mod Judging
pub mod FileLaws
pub mod Below
