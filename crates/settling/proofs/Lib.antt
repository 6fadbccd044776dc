-- The laws that the proof of the code uses.
pub mod Forests
pub mod Ends
pub mod Taking
pub mod Showing
pub mod Guessing
