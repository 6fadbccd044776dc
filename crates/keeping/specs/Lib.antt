-- What is kept of the searches of a sweep, and what it answers.
pub mod Kept
