-- What each way out of the public calls shows, and that no choice is left.
pub mod Once
pub mod Outcomes
mod Ways
mod Trims
