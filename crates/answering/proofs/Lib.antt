-- The laws that the proof of the code uses.
pub mod Right
