-- Laws of turning.
pub mod Telling
pub mod Walk
