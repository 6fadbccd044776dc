-- Laws of the cursor's steps and refusals, for the crates above.
pub mod Steps
pub mod Refusals
mod Groups
