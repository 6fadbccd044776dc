-- An assignment as code holds it, and what the walk over a condition's nodes promises.
pub mod Assigned
pub mod Judged
