-- Laws of judging.
pub mod Ends
pub mod Walk
