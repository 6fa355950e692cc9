pub mod Agree
pub mod PointerLaws
pub mod ReadingBack
