-- The laws that the proof of the sweep uses.
pub mod Stages
