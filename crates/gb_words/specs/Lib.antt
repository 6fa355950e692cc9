pub mod CommandLine
pub mod HuntWords
pub mod Words
