-- Laws of what is kept.
pub mod Knowing
