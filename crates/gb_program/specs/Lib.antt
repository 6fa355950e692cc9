pub mod Fourth
pub mod FourthFile
pub mod Input
pub mod Opened
pub mod Status
pub mod Versions
