pub mod Clock
pub mod Controller
pub mod Controllers
pub mod Counting
pub mod Below
