-- What the public calls answer.
pub mod Judging
pub mod Finding
pub mod Trimming
