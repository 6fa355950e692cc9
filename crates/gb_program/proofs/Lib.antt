pub mod FourthText
pub mod FourthLaws
pub mod FourthFileLaws
