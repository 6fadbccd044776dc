-- What a condition is, means and how it is written, in document 01's order: read these files first. docs/CONDITIONS.md tells the same in
-- plain words, and says what document 01 and 000 are.
pub mod Limits
pub mod Answers
pub mod Meaning
pub mod Depth
pub mod Bytes
pub mod Reading
pub mod Places
pub mod Satisfying
pub mod Folding
pub mod Critical
pub mod Deciding
pub mod Sweep
pub mod Counting
